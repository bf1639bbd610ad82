use Rattle.std.proofs.Common.{map}
use Rattle.audit_core.proofs.AuditLemmas.{zip_next}
use Rattle.audit_compare.specs.Compare.{IsCompared}
use Rattle.audit_compare.proofs.compare.crawlers_of.Goals as goal

pub loop-agent-preserved : goal.loop-agent-preserved
loop-agent-preserved c =
    rw c.in_ok-push.ensures.items
    (zip_next (IsCompared (map (λ url. url.now) c.args.urls.now) c.args.older.now.here.bytes.now
    c.args.newer.now.here.bytes.now) (λ agent. agent.now) c.args.agents.now c.loop-agent.agent-index _
    c.loop-agent.crawlers.items _ c.loop-agent-test.true c.loop-agent.invariant
    c.in_ok-compared_for.ensures.ok)
