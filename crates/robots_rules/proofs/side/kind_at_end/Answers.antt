use Rattle.std.proofs.Common.{[]}
use Rattle.robots_rules.proofs.side.kind_at_end.Goals as goal
use Rattle.robots_rules.proofs.SideLemmas.{one_more}

pub loop-item-preserved : goal.loop-item-preserved
loop-item-preserved c =
    one_more c.args.start c.args.items.now c.loop-item.item-index c.item-item.result [] _ _
    c.loop-item-test.true
    c.item-item.is c.loop-item.invariant c.kind_with-answer.ensures
