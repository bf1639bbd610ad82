use Rattle.std.proofs.Common.{arith}
use Rattle.robots_rules.proofs.search.Found.is_settled.Goals as goal
use Rattle.robots_rules.proofs.ClosureLemmas.{same_sides, settled_by}

pub returns-then-has_same_sides : goal.returns-then-has_same_sides
returns-then-has_same_sides c = λ _.
    same_sides c.args.self.now.states.items c.args.state.now (c.has_same_sides.ensures
    c.if-has_same_sides.true)

pub returns : goal.returns
returns c = λ is.
    let settled = settled_by c.as_slice-states.result.now c.args.state.now c.index-states-k.result
    c.in-Some.k (omega arith)
    c.index-states-k.is (c.is_same.ensures is) in
    rw c.as_slice-states.ensures.value at settled
