use Rattle.std.proofs.Common.{◌≡◌, drop, map}
use Rattle.texting_robots.specs.{Callers.label_by_value}
use Rattle.audit_core.specs.{Audit.crawlers_in, Audit.with_names, Internal.Agents.HasAgents}
use Rattle.robots_warnings.specs.{File.lines_of}
use Rattle.audit_core.proofs.agents.crawlers_in.Given as goal

abbrev pub invariant-loop-labeled : goal.invariant-loop-labeled
invariant-loop-labeled l = record {
  met : HasAgents l.met (map (λ name. name.now) l.names.items);
  names : with_names (map (λ name. name.now) l.names.items)
      (lines_of (map label_by_value (drop l.labeled-index l.labels)))
      ≡ crawlers_in (lines_of (map label_by_value l.labels));
}
