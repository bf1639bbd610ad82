use Rattle.std.proofs.Common.{map, take}
use Rattle.std.specs.List.{AllZip}
use Rattle.audit_core.specs.Audit.{IsReported}
use Rattle.audit_core.proofs.audit.agent_audits.Given as goal

abbrev pub invariant-loop-agent : goal.invariant-loop-agent
invariant-loop-agent l =
    AllZip (IsReported (map (λ url. url.now) l.urls) l.readings.here.bytes.now)
    (map (λ agent. agent.now) (take l.agent-index l.agents)) l.audits.items
