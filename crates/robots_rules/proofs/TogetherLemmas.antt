-- Rules that are needless together.
use Rattle.std.proofs.Common.{rules, [], ◌≡◌, ◌↔◌, ℕ, zero, suc, ◌==◌, Bool, true, List, ◌∷◌, ap}
use Rattle.std.proofs.Common.{IsPermutation, refl, ◌∙◌, arith, map}
use Rattle.std.proofs.lemmas.{Grind.common_steps, Bool.cond_both, Bool.eqb-true}
use Rattle.std.specs.List.{Contains, filter, list_any}
use Rattle.std.proofs.lemmas.Bool.Decides.{Decides-eqb}
use mathlib.Core.Logic.Iff
use Rattle.std.proofs.lemmas.List.Elements.{All-contains, All-contains_itself, All-filter, filter_passes}
use Rattle.std.proofs.lemmas.List.{get_or-map, length-map, Folds.Any-from_list_any, Folds.list_any_at}
use Rattle.texting_robots.specs.Rules.{PlacedRule, Rule, unplaced}
use Rattle.robots_rules.specs.{Search.IsReducedTo}
use Rattle.texting_robots.specs.Verdict.{IsDenied, IsVerdict}
use Rattle.texting_robots.proofs.Shared.{permuted_verdicts}

-- ---- Which rules are left without those in some lines.

pub to_map : {A B : Type 0} (f : A → B) (xs : List A) (x : A) → Contains xs x → Contains (map f xs) (f x)
to_map f xs x (k, below, at) = (k, rw (length-map xs f) below, get_or-map f xs k x (f x) below ∙ ap f at)

pub of_map : {A B : Type 0} (f : A → B) (xs : List A) (y : B) → Contains (map f xs) y
    → (x : A) × Contains xs x × (f x ≡ y)
of_map f [] y (k, below, at) = absurd (omega arith)
of_map f (x ∷ xs) y (zero, below, at) = (x, (0, omega arith, refl), at)
of_map f (x ∷ xs) y (suc k, below, at) =
    let (z, (j, less, has), is) = of_map f xs y (k, omega arith, at) in (z, (suc j, omega arith, has), is)

pub named_in : (n : ℕ) (numbers : List ℕ) → Contains numbers n
    → list_any (λ number. number == n) numbers ≡ true
named_in n numbers (k, below, at) = grind (arith, list_any_at, Decides-eqb)

pub in_named : (n : ℕ) (numbers : List ℕ) → list_any (λ number. number == n) numbers ≡ true
    → Contains numbers n
in_named n numbers is = grind (arith, Any-from_list_any, eqb-true)

pub in_cons : {A : Type 0} (first : A) (rules : List A) (placed : A) → Contains rules placed
    → Contains (first ∷ rules) placed
in_cons first rules placed (k, below, at) = (suc k, omega arith, at)

pub in_filter : (test : PlacedRule → Bool) (rules : List PlacedRule) (placed : PlacedRule)
    → Contains (filter test rules) placed → Contains rules placed × (test placed ≡ true)
in_filter test rules placed has = (
  All-contains (Contains rules) _ placed (All-filter test (Contains rules) rules (All-contains_itself rules))
      has,
  (grind (arith, All-contains, filter_passes)),
)

pub to_filter : {A : Type 0} (test : A → Bool) (rules : List A) (placed : A) → Contains rules placed
    → test placed ≡ true → Contains (filter test rules) placed
to_filter test [] placed has is = grind arith
to_filter test (first ∷ rules) placed (zero, below, at) is = grind arith
to_filter test (first ∷ rules) placed (suc k, below, at) is =
    let rest = to_filter test rules placed (k, omega arith, at) is in
    cond_both (test first) _ _ (λ kept. Contains kept placed)
    (λ _. in_cons first (filter test rules) placed rest) (λ _. rest)

-- ---- Rules that go one after the other are needless together.

pub unplaced_of : (rules : List PlacedRule) (placed : PlacedRule) → Contains rules placed
    → Contains (unplaced rules) placed.rule
unplaced_of = search (rules, to_map)

pub verdicts : (rules others : List Rule) (text : List ℕ) → IsDenied rules text ↔ IsDenied others text
    → (answer : Bool) → IsVerdict rules text answer ↔ IsVerdict others text answer
verdicts rules others text same answer = grind (arith, common_steps)

pub permuted : (rules others : List PlacedRule) → IsPermutation rules others → IsReducedTo rules others
permuted rules others same text answer = Iff.symm (permuted_verdicts rules others same text answer)

pub reduced_more : (rules mid left : List PlacedRule) → IsReducedTo rules mid → IsReducedTo mid left
    → IsReducedTo rules left
reduced_more rules mid left first second text answer = Iff.trans (first text answer) (second text answer)
