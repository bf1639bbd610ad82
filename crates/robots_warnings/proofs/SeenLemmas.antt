-- How numbers of lines are taken, and lines found past the size limit.
use Rattle.std.specs.Prelude.{All, Some, slice_get}
use Rattle.std.proofs.Common.{[], ◌≡◌, ℕ, ◌+◌, Bool, true, false, List, ◌∷◌, ◌++◌, ◌∙◌, ap, drop}
use Rattle.std.proofs.Common.{if◌then◌else◌, refl, suc, sym, zero, add-one, append-nil, ◌||◌}
use Rattle.std.{proofs.lemmas.List.Elements.All-push, specs.BTreeSet.BTreeSet}
use Rattle.texting_robots.specs.Callers.{LineValue, file_lines}
use Rattle.robots_warnings.specs.{Crawlers.IsPastLimit}
use Rattle.robots_warnings.specs.Internal.Names.{Key, AddsLine, HasNames}

-- loop step: a number was taken if something holds
pub all_pushed : (P : ℕ → Type 0) (old : List ℕ) (is : Bool) (number : ℕ) {new : List ℕ} → All P old
    → (is ≡ true → P number) → new ≡ old ++ (if is then number ∷ [] else []) → All P new
all_pushed P old true number are so added = rw added (All-push P old number are (so refl))
all_pushed P old false number are so added = rw (added, append-nil) are

from_here : {X : Type 0} (xs left : List X) (at : ℕ) (x : X) → drop at xs ≡ x ∷ left
    → (slice_get xs at ≡ Some x) × (drop (suc at) xs ≡ left)
from_here [] left zero x is = (cc, cc)
from_here [] left (suc at) x is = (cc, cc)
from_here (y ∷ xs) left zero x is = (cc, cc)
from_here (y ∷ xs) left (suc at) x is = from_here xs left at x is

-- loop step: one more line was examined, and its number was taken if its name is new
pub found_more : (read : List LineValue) (file : List ℕ) (index : ℕ) (line : LineValue)
    {left : List LineValue} {names new_names : BTreeSet Key} (old : List ℕ) {new : List ℕ} {is_new : Bool}
    → drop index (file_lines file) ≡ line ∷ left → HasNames names read → All (IsPastLimit read file) old
    → AddsLine names new_names line is_new → new ≡ old ++ (if is_new then (index + 1) ∷ [] else [])
    → record {
      left : drop (index + 1) (file_lines file) ≡ left;
      has : HasNames new_names read;
      are : All (IsPastLimit read file) new;
    }
found_more read file index line {left} {names} {new_names} old {new} {is_new} here has are adds added =
    let (at, further) = from_here (file_lines file) left index line here in
    record {
      left = ap (λ at. drop at (file_lines file)) (add-one index) ∙ further;
      has = record { each = λ key isnt. has.each key (or_false _ _ (sym (adds.each key) ∙ isnt)) };
      are = all_pushed (IsPastLimit read file) old is_new (index + 1) are
          (λ is. (index, line, refl, at, adds.was read has is)) added;
    }
  where
    or_false : (a b : Bool) → (a || b) ≡ false → a ≡ false
    or_false false b isnt = refl
    or_false true b isnt = isnt
