use Rattle.std.proofs.Common.{◌≡◌, arith, rules}
use Rattle.std.proofs.lemmas.List.{take_more_same}
use Rattle.robots_rules.proofs.side.are_same_items.Goals as goal
use Rattle.robots_rules.proofs.SideLemmas.{all_same}

pub loop-k-preserved : goal.loop-k-preserved
loop-k-preserved c =
    let one = c.index-one-k.result in
    let same : one ≡ c.index-other-k.result = c.is_same.ensures (search rules) in
    take_more_same c.args.one.now c.args.other.now c.loop-k.k one (omega arith) (omega arith)
    c.loop-k.invariant (cc)

pub returns : goal.returns
returns c = λ _. all_same c.args.one.now c.args.other.now c.loop-k.k (omega arith) (omega arith)
    c.loop-k.invariant
