use Rattle.std.proofs.Common.{map}
use Rattle.audit_core.specs.Audit.{IsReported}
use Rattle.audit_core.proofs.AuditLemmas.{zip_next}
use Rattle.audit_core.proofs.audit.agent_audits.Goals as goal

pub loop-agent-preserved : goal.loop-agent-preserved
loop-agent-preserved c =
    rw c.in_ok-push.ensures.items
    (zip_next (IsReported (map (λ url. url.now) c.args.urls.now) c.args.readings.now.here.bytes.now)
    (λ agent. agent.now) c.args.agents.now c.loop-agent.agent-index _ c.loop-agent.audits.items _
    c.loop-agent-test.true c.loop-agent.invariant c.in_ok-audit_named.ensures.ok)
