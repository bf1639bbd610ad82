-- The fields of an audit and its parts as values.
use Rattle.std.specs.Prelude.{map}
use Rattle.texting_robots.specs.{Callers.label_by_value}
use Rattle.audit_core.specs.{Audit.VerdictValue, declared.audit.AgentAudit.TheInside.Inside as InsideAgent}
use Rattle.audit_core.specs.{Audit.AgentValue, declared.audit.Verdict.TheInside.Inside as InsideVerdict}
use Rattle.audit_core.specs.{Audit.AuditValue, declared.audit.Audit.TheInside.Inside as InsideAudit}

abbrev pub verdict_of : InsideVerdict → VerdictValue
verdict_of verdict =
    record { url = verdict.url.now; decision = verdict.decision; standard = verdict.standard }

abbrev pub agent_of : InsideAgent → AgentValue
agent_of audit = record {
  agent = audit.agent.now;
  asked = audit.asked.now;
  group = audit.group;
  group_line = audit.group_line;
  rules = audit.rules;
  reach = audit.reach;
  allows = audit.allows.items;
  vendor = audit.vendor;
  ignored_by = map (λ name. name.now) audit.ignored_by.items;
  delay = audit.delay;
  rejected = audit.rejected;
  verdicts = audit.verdicts.items;
  standard = audit.standard;
}

abbrev pub audit_of : InsideAudit → AuditValue
audit_of audit = record {
  labels = map label_by_value audit.labels.items;
  agents = audit.agents.items;
  warnings = audit.warnings.items;
  syntax = audit.syntax;
}
