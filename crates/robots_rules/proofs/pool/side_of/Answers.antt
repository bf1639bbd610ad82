use Rattle.robots_rules.proofs.pool.side_of.Goals as goal
use Rattle.robots_rules.proofs.PoolLemmas.{side_more}

pub loop-entry-preserved : goal.loop-entry-preserved
loop-entry-preserved c = λ t.
    side_more c.args.all c.args.new c.args.start c.args.pool.now c.loop-entry.entry-index
    c.entry-item.result t _ _
    c.loop-entry-test.true c.entry-item.is (c.loop-entry.invariant t) (c.in_ok-push_entry.ensures t)
