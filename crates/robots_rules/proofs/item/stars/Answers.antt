use Rattle.std.proofs.Common.{arith, rules}
use Rattle.robots_rules.proofs.item.stars.Goals as goal
use Rattle.robots_rules.proofs.MatchLemmas.{passed_more}

pub loop-k-preserved : goal.loop-k-preserved
loop-k-preserved c = λ t.
    passed_more c.args.rest.now c.loop-k.k t (omega arith) (search rules) (c.loop-k.invariant t)
