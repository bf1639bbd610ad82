-- The last matching rule decides, if the rules are in ascending order.
use Rattle.std.proofs.Common.{◌≡◌, ◌≢◌, ◌⊎◌, inl, inr, ℕ, suc, ◌+◌, ◌-◌, ◌<◌, ◌≤◌, Bool, true, false, List}
use Rattle.std.proofs.Common.{[], ◌∷◌, ◌++◌, All, Contains, IsPermutation, get_or, length, refl, sym, subst}
use Rattle.std.proofs.Common.{◌∙◌, arith, add-one}
use Rattle.std.proofs.lemmas.Bool.{cases_Bool, cases_lt, false≢true}
use Rattle.std.proofs.lemmas.List.{get_or_default, Sorted.IsPermutation-sym}
use Rattle.std.proofs.lemmas.Bool.Decides.{not_from_Decides}
use Rattle.std.proofs.lemmas.List.Elements.{All-cons, All-contains, All-nil}
use Rattle.texting_robots.specs.{Pattern.Matches, Pattern.MatchesWith, Rules.Rule}
use Rattle.texting_robots.specs.Verdict.{IsDenied, IsVerdict, robots_file}
use Rattle.texting_robots.proofs.Shared.{matches, matches_decides, verdict_unique, order_changes_nothing}
use Rattle.robots_rules.specs.declared.pool.Entry.{Entry}
use Rattle.robots_rules.specs.declared.compare.Comparison.{Comparison}
use Rattle.robots_rules.specs.Same.{HaveSameVerdicts, IsComparison}
use Rattle.robots_rules.specs.Internal.{AgreeFrom, AreAscending, Decide, IsAnswer, IsSameOn, chosen}
use Rattle.robots_rules.specs.Internal.{last_kind, rank_of, robots_rule}
use Rattle.robots_rules.proofs.SideLemmas.{last_kind_append}

pub shorter_below : (one other : Rule) → length one.0 < length other.0 → rank_of one ≤ rank_of other
shorter_below one other less = grind (arith, cases_Bool)

pub disallow_below : (one other : Rule) → length one.0 ≤ length other.0 → one.1 ≡ false
    → rank_of one ≤ rank_of other
disallow_below one other most is = rw is (omega arith)

pub below_allow : (one other : Rule) → length one.0 ≤ length other.0 → other.1 ≡ true
    → rank_of one ≤ rank_of other
below_allow one other most is = grind (arith, cases_Bool)

-- one more item of a loop that checks the order
pub ascending_more : (items : List Rule) (k : ℕ) (x y : Rule) → k < length items
    → x ≡ get_or items (k - 1) x
    → y ≡ get_or items k y → rank_of x ≤ rank_of y
    → ((j : ℕ) (d : Rule) → j + 1 < k → rank_of (get_or items j d) ≤ rank_of (get_or items (j + 1) d))
    → (j : ℕ) (d : Rule) → j + 1 < k + 1 → rank_of (get_or items j d) ≤ rank_of (get_or items (j + 1) d)
ascending_more items k x y below at_x at_y is before j d less = grind (arith, cases_lt, get_or_default)

record IsLast (rules : List Rule) (text : List ℕ) (rule : Rule) : Type 0 where
  pub listed : Contains rules rule
  pub fits : Matches rule.0 text
  pub most : All (λ (other : Rule). Matches other.0 text → rank_of other ≤ rank_of rule) rules

abbrev IsFound : List Rule → List ℕ → Bool → Bool → Type 0
IsFound rules text start answer =
    ((answer ≡ start) × All (λ (other : Rule). ¬ Matches other.0 text) rules)
    ⊎ ((rule : Rule) × IsLast rules text rule × (answer ≡ rule.1))

abbrev IsAbove : Rule → Rule → Type 0
IsAbove rule other = rank_of rule ≤ rank_of other

fewer : (rule : Rule) (rules : List Rule) → AreAscending (rule ∷ rules) → AreAscending rules
fewer rule rules ascending = λ k d below.
    let more = ascending (suc k) d (omega arith) in rw add-one (rw add-one at more)

all_above : (rule : Rule) (rules : List Rule) → AreAscending (rule ∷ rules) → All (IsAbove rule) rules
all_above rule [] ascending = All-nil (IsAbove rule)
all_above rule (next ∷ rules) ascending =
    let here : rank_of rule ≤ rank_of next = ascending 0 next (omega arith) in
    All-cons (IsAbove rule) next rules here
    (λ k d below. let more = all_above next rules (fewer rule (next ∷ rules) ascending) k d below in omega
    arith)

module _ (text : List ℕ) where
  found : (rules : List Rule) → AreAscending rules → (start : Bool)
      → IsFound rules text start (last_kind start rules text)
  found [] ascending start = grind arith
  found (rule ∷ rules) ascending start = elim (cases_Bool (matches true rule.0 text)) [
    | inl here ↦ rw here
        (with ((matches_decides true _ _).0 here) (found rules (fewer rule rules ascending) rule.1))
    | inr none ↦ rw none (less (not_from_Decides _ (matches_decides true _ _) none)
        (found rules (fewer rule rules ascending) start))
  ]
    where
      later : (answer : Bool) (last : Rule) → IsLast rules text last → answer ≡ last.1
          → IsFound (rule ∷ rules) text start answer
      later answer last is kind = inr (
        last,
        record {
          listed = let (k, below, at) = is.listed in (suc k, omega arith, at);
          fits = is.fits;
          most = All-cons (λ (other : Rule). Matches other.0 text → rank_of other ≤ rank_of last) rule rules
              (λ _. All-contains (IsAbove rule) rules last (all_above rule rules ascending) is.listed)
              is.most;
        },
        kind,
      )

      with : {answer : Bool} → Matches rule.0 text → IsFound rules text rule.1 answer
          → IsFound (rule ∷ rules) text start answer
      with here (inl (kind, none)) = inr (
        rule,
        record {
          listed = (0, omega arith, refl);
          fits = here;
          most = All-cons (λ (other : Rule). Matches other.0 text → rank_of other ≤ rank_of rule) rule rules
              (λ _. omega arith) (λ k d below fits. absurd (none k d below fits));
        },
        kind,
      )
      with {answer = answer} here (inr (last, is, kind)) = later answer last is kind

      less : {answer : Bool} → ¬ Matches rule.0 text → IsFound rules text start answer
          → IsFound (rule ∷ rules) text start answer
      less isnt (inl (kind, none)) = inl (
        kind,
        All-cons (λ (other : Rule). ¬ Matches other.0 text) rule
            rules isnt none,
      )
      less {answer = answer} isnt (inr (last, is, kind)) = later answer last is kind

  denies : (rules : List Rule) (last : Rule) → last.1 ≡ false → text ≢ robots_file → IsLast rules text last
      → IsDenied rules text
  denies rules last h h2 h3 = grind arith

  allows : (rules : List Rule) (last : Rule) → last.1 ≡ true → IsLast rules text last
      → ¬ IsDenied rules text
  allows rules last h h2 = grind arith

  answered : (rules : List Rule) → text ≢ robots_file → (answer : Bool) → IsFound rules text true answer
      → IsVerdict rules text answer
  answered rules h answer h2 = grind (arith, allows, denies)

whole : (text : List ℕ) → Matches robots_rule.0 text → text ≡ robots_file
unfolding MatchesWith
whole text (_, a, (_, b, (_, c, (_, d, (_, e, (_, f, (_, g, (_, h, (_, i, (_, j, (_, k, (_, l, _)))))))))))) =
    cc

decide_sorted : (rules : List Rule) → AreAscending rules → Decide rules rules
decide_sorted rules ascending text = rw (last_kind_append rules (robots_rule ∷ []) true text)
    (elim (cases_Bool (matches true robots_rule.0 text)) [
      | inl here ↦ rw here (λ denied. denied.0 (whole text ((matches_decides true _ _).0 here)))
      | inr none ↦
          let differs : text ≢ robots_file = λ file. false≢true
          (sym none ∙ subst (λ (t : List ℕ). matches true robots_rule.0 t ≡ true) (sym file) refl) in
          rw none (answered text rules differs _ (found text rules ascending true))
    ])

pub decide : (rules sorted : List Rule) → IsPermutation rules sorted → AreAscending sorted
    → Decide rules sorted
decide rules sorted same ascending text =
    order_changes_nothing sorted rules text _ (IsPermutation-sym rules sorted same)
    (decide_sorted sorted ascending text)

module _ (old new sorted_old sorted_new : List Rule) (pool : List Entry) (old_is : Decide old sorted_old)
    (new_is : Decide new sorted_new) (in_old : chosen true false pool ≡ sorted_old ++ robots_rule ∷ [])
    (in_new : chosen true true pool ≡ sorted_new ++ robots_rule ∷ []) where
  old_verdict : (text : List ℕ) → IsVerdict old text (last_kind true (chosen true false pool) text)
  old_verdict text = grind arith

  new_verdict : (text : List ℕ) → IsVerdict new text (last_kind true (chosen true true pool) text)
  new_verdict text = grind arith

  same_verdicts : (front : List ℕ) → AgreeFrom front pool → HaveSameVerdicts front old new
  same_verdicts front agree rest answer = grind (arith, new_verdict, old_verdict, verdict_unique)

  other_verdict : (text : List ℕ) → ¬ IsSameOn text pool → (answer : Bool) → IsVerdict old text answer
      → ¬ IsVerdict new text answer
  other_verdict text differ answer is is_too = grind (arith, new_verdict, old_verdict, verdict_unique)

  pub compared : (front : List ℕ) (answer : Comparison) → IsAnswer front pool answer
      → IsComparison front old new answer
  compared front answer h = grind (arith, other_verdict, same_verdicts)
