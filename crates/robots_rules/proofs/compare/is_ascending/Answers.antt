use Rattle.std.proofs.Common.{arith, rules}
use Rattle.robots_rules.proofs.compare.is_ascending.Goals as goal
use Rattle.robots_rules.proofs.VerdictLemmas.{ascending_more}

pub loop-k-preserved : goal.loop-k-preserved
loop-k-preserved c =
    ascending_more c.args.items.now c.loop-k.k c.index-items-k.result c.index-items-k-in-loop-k.result
    (omega arith)
    c.index-items-k.is c.index-items-k-in-loop-k.is (c.is_below.ensures (search rules)) c.loop-k.invariant
