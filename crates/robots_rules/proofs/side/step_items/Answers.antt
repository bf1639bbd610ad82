use Rattle.std.proofs.Common.{◌∷◌}
use Rattle.robots_rules.proofs.side.step_items.Goals as goal
use Rattle.robots_rules.proofs.SideLemmas.{one_more}

pub loop-item-preserved : goal.loop-item-preserved
loop-item-preserved c = λ t.
    one_more c.args.start c.args.items.now c.loop-item.item-index c.item-item.result (c.args.byte ∷ t) _ _
    c.loop-item-test.true c.item-item.is (c.loop-item.invariant t) (c.in_ok-push_after.ensures t)
