-- Steps of loops over bytes.
use Rattle.std.proofs.Common.{[], ◌≡◌, ℕ, ◌<◌, ◌==◌, Bool, List, ◌∷◌, arith, drop, if◌then◌else◌, inl, inr}
use Rattle.std.proofs.Common.{length, not, refl}
use Rattle.std.proofs.lemmas.Bool.{cases_Bool, Decides.nat_tests}
use Rattle.safe_output.specs.Bytes.{from_first, somewhere}

-- all of the text, if the test holds for it, or the same for all but its first byte
pub from_first_next : (test : List ℕ → Bool) (text : List ℕ) → 0 < length text
    → from_first test text ≡ (if test text then text else from_first test (drop 1 text))
from_first_next test [] some = absurd (omega arith)
from_first_next test (b ∷ text) some = refl

pub somewhere_first : (test : List ℕ → Bool) (text : List ℕ)
    → somewhere test text ≡ not (length (from_first test text) == 0)
somewhere_first test [] = refl
somewhere_first test (b ∷ text) = elim (cases_Bool (test (b ∷ text))) [
  | inl is ↦ rw is (grind (arith, nat_tests))
  | inr isnt ↦ rw isnt (somewhere_first test text)
]
