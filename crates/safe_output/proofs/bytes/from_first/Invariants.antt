use Rattle.std.proofs.Common.{◌≡◌, ℕ, Bool, List, length}
use Rattle.std.specs.Fn.{FnReturnsAt}
use Rattle.safe_output.specs.Bytes.{from_first}
use Rattle.safe_output.proofs.bytes.from_first.Given as goal

abbrev pub invariant-loop-rest : goal.invariant-loop-rest
invariant-loop-rest g l =
    (p : List ℕ → Bool) → ((x : List ℕ) (r : Bool) → FnReturnsAt g.F.Fn l.fn.test x r → r ≡ p x)
    → from_first p l.rest ≡ from_first p l.text

abbrev pub decreases-loop-rest : goal.decreases-loop-rest
decreases-loop-rest g l = length l.rest
