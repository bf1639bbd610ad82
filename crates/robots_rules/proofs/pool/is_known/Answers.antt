use Rattle.std.proofs.Common.{◌≡◌, rules, true}
use Rattle.robots_rules.specs.Internal.{is_shared}
use Rattle.robots_rules.proofs.pool.is_known.Goals as goal
use Rattle.robots_rules.proofs.PoolLemmas.{shared_next}

pub loop-entry-preserved : goal.loop-entry-preserved
loop-entry-preserved c = λ t leaves.
    let before = c.loop-entry.invariant t leaves in
    let is : is_shared c.entry-item.result ≡ true = search rules in
    let next = shared_next c.args.pool.now c.loop-entry.entry-index c.entry-item.result c.args.kind t
    c.loop-entry-test.true c.entry-item.is is before.1 in
    (λ starts. before.0 (next.0 starts), next.1)
