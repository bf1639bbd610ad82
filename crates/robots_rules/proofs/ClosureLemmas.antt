-- States agree on every text if each of them is checked, and lists of rules if their states do.
use Rattle.std.proofs.Common.{◌≡◌, inl, inr, ℕ, ◌<◌, Bool, true, false, ◌==◌, List, [], ◌∷◌, ◌++◌, All}
use Rattle.std.proofs.Common.{Contains, arith, get_or, length, sym, ◌∙◌}
use Rattle.std.proofs.lemmas.Bool.{cases_Bool}
use Rattle.std.proofs.lemmas.Bool.Decides.{Decides-eqb, not_from_Decides}
use Rattle.std.proofs.lemmas.Map.Made.{is_member-Decides}
use Rattle.std.specs.{Bool.Decides, Set.is_member}
use Rattle.std.proofs.lemmas.List.{Elements.All-contains, append-nil}
use Rattle.texting_robots.specs.{Rules.Rule}
use Rattle.texting_robots.proofs.Shared.{matches}
use Rattle.robots_rules.specs.declared.pool.Entry.{Entry}
use Rattle.robots_rules.specs.Internal.{Agrees, AreAlike, IsChecked, IsFollowed, LeavesAgree}
use Rattle.robots_rules.specs.Internal.{StartsAgree, StateValue}
use Rattle.robots_rules.specs.Internal.{AgreeFrom, IsAfter, IsSettled, chosen, is_shared, last_kind, verdict}

pub all_agree : (states : List StateValue) → All (IsChecked states) states → (t : List ℕ)
    → All (Agrees t) states
all_agree states checked [] = grind arith
all_agree states checked (b ∷ t) = grind (arith, all_agree states checked t)

pub same_sides : (states : List StateValue) (state : StateValue) → state.old ≡ state.new
    → IsSettled states state
same_sides states state same = grind arith

-- it is one of the states
pub settled_by : (states : List StateValue) (state x : StateValue) (k : ℕ) → k < length states
    → x ≡ get_or states k x → x ≡ state → IsSettled states state
settled_by states state x k below at same = grind arith

-- each byte is listed, or like the other one
pub all_followed : (states : List StateValue) (state : StateValue) (bytes : List ℕ) (other : ℕ)
    → AreAlike bytes state.old.items → AreAlike bytes state.new.items → ¬ Contains bytes other
    → IsFollowed states state other → All (IsFollowed states state) bytes → (b : ℕ)
    → IsFollowed states state b
all_followed states state bytes other old new isnt follows all b =
    let has = is_member (λ (x y : ℕ). x == y) bytes b in
    let among : Decides has (Contains bytes b) = is_member-Decides Decides-eqb bytes b in
    elim (cases_Bool has) [
      | inl is ↦ All-contains (IsFollowed states state) bytes b all (among.0 is)
      | inr hasnt ↦
          let none = not_from_Decides _ among hasnt in
          λ t agree. old b other state.old.start t none isnt ∙ follows t agree
          ∙ sym (new b other state.new.start t none isnt)
    ]

module _ (text : List ℕ) where
  abbrev Agree : Bool → List Entry → Bool → Bool → Type 0
  Agree all pool a b = last_kind a (chosen all false pool) text ≡ last_kind b (chosen all true pool) text

  -- A shared rule that matches decides above all rules below it; one that doesn't match changes nothing.
  one_split : (item : Rule) (old new tracked : Bool) (pool : List Entry) (a b : Bool)
      → ((c d : Bool) → Agree false pool c d → Agree true pool c d)
      → (let entry : Entry = record { item = item; old = old; new = new; tracked = tracked } in
      Agree false (entry ∷ pool) a b → (is_shared entry ≡ true → StartsAgree item.1 text pool)
      → Agree true (entry ∷ pool) a b)
  one_split item old new tracked pool a b h = grind (arith, matches)

  pub split : (pool : List Entry) (a b : Bool) → Agree false pool a b → LeavesAgree text pool
      → Agree true pool a b
  split [] a b is leaves = is
  split (entry ∷ pool) a b is (starts, leaves) = grind (arith, one_split, split pool)

pub proven : (front : List ℕ) (states : List StateValue) (pool : List Entry) → All (IsChecked states) states
    → ((t : List ℕ) → All (Agrees t) states → StartsAgree true (front ++ t) pool)
    → ((t : List ℕ) → All (Agrees t) states → LeavesAgree (front ++ t) pool) → AgreeFrom front pool
proven front states pool checked starts leaves = λ t.
    let all = all_agree states checked t in split (front ++ t) pool true true (starts t all) (leaves t all)

-- if both lists have the same verdict on a text, the state that it leaves agrees at the end
pub still_agrees : (text : List ℕ) (whole state : StateValue) (pool : List Entry) → IsAfter text whole state
    → ((t : List ℕ) → verdict whole.old t ≡ last_kind true (chosen true false pool) t)
    → ((t : List ℕ) → verdict whole.new t ≡ last_kind true (chosen true true pool) t)
    → last_kind true (chosen true false pool) text ≡ last_kind true (chosen true true pool) text
    → Agrees [] state
still_agrees text whole state pool after old new same = grind (arith, append-nil)
