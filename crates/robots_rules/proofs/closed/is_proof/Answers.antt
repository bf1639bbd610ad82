use Rattle.std.proofs.Common.{◌++◌, List, rules, true, ℕ}
use Rattle.std.specs.{List.All}
use Rattle.robots_rules.specs.Internal.{Agrees, IsChecked, StartsAgree}
use Rattle.robots_rules.proofs.closed.is_proof.Goals as goal
use Rattle.robots_rules.proofs.ClosureLemmas.{proven}

pub returns : goal.returns
returns c = λ is.
    let states = c.args.found.now.states.items in
    let are : All (IsChecked states) c.as_slice.result.now = search rules in
    let starts : (t : List ℕ) → All (Agrees t) states → StartsAgree true (c.args.front.now ++ t)
    c.args.pool.now
    = search rules in
    proven c.args.front.now states c.args.pool.now (rw c.as_slice.ensures.value at are) starts
    (c.in_ok-settled.ensures is)
