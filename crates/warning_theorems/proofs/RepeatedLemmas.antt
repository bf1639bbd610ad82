-- A rule with `repeated-rule` decides no verdict, and can be deleted.
use Rattle.std.proofs.lemmas.Bool.{cases_Bool, false_from_ne_true}
use Rattle.std.proofs.Common.{◌≡◌, ◌∙◌, ◌+◌, ℕ, suc, zero, Bool, true, false, List, [], ◌∷◌, Contains, Some}
use Rattle.std.proofs.Common.{arith, if◌then◌else◌, inl, inr, refl, slice_get, subst, sym, ◌<◌, ◌≤◌, ◌↔◌, All}
use Rattle.std.proofs.Common.{length, subst₂, take_all}
use Rattle.texting_robots.specs.Callers.{LineValue, AreRulesFor, Rule, IsCaptured, IsDenied}
use Rattle.texting_robots.specs.Callers.{IsVerdict, PlacedRule, group_name, placed_rules, rules_for, unplaced}
use Rattle.texting_robots.specs.Callers.{file_bodies, file_limit, file_lines, lines_read}
use Rattle.texting_robots.specs.{Theorems.Same, Group.is_agent}
use Rattle.robots_rules.specs.Blocks.{is_rule, keep_blocks_from, no_rule, with_rule, IsLeftOf}
use Rattle.robots_rules.specs.Blocks.{begin_with_mark}
use Rattle.robots_rules.specs.Needless.{lines_without, without}
use Rattle.robots_rules.proofs.LeftLemmas.{left_within, same_result}
use Rattle.robots_rules.proofs.TogetherLemmas.{in_named, unplaced_of, verdicts, in_filter, to_filter}
use Rattle.robots_rules.proofs.BlockLemmas.{among, deleted}
use Rattle.robots_warnings.specs.Repeated.{IsAbove, IsRepeat}
use Rattle.texting_robots.proofs.Shared.{placed_of, placed_are_rules}

pub record IsFrom (lines : List LineValue) (position : ℕ) (rest : List LineValue) : Type 0 where
  pub each : (i : ℕ) → slice_get lines (position + i) ≡ slice_get rest i

pub all_from : (lines : List LineValue) → IsFrom lines 0 lines
all_from lines = grind arith

module _ {lines : List LineValue} {position : ℕ} {line : LineValue} {rest : List LineValue}
    (from : IsFrom lines position (line ∷ rest)) where
  pub here : slice_get lines position ≡ Some line
  here = subst (λ n. slice_get lines n ≡ Some line) (omega arith) (from.each 0)

  pub from_next : IsFrom lines (position + 1) rest
  from_next = record {
    each = λ i. subst (λ n. slice_get lines n ≡ slice_get rest i) (omega arith) (from.each (suc i));
  }

captured_above : {lines : List LineValue} {position : ℕ} {line : LineValue} (name : List ℕ)
    (is : IsAbove lines position line) → IsCaptured name lines position → IsCaptured name lines is.other
captured_above name is h = grind arith

pub rule_above : {agent : List ℕ} {lines : List LineValue} {rules : List PlacedRule}
    → AreRulesFor agent lines rules → (placed : PlacedRule) → Contains rules placed
    → IsRepeat lines placed.line
    → (line : ℕ) × (line < placed.line) × Contains rules (record { rule = placed.rule; line = line })
rule_above {agent} {lines} are placed has is =
    let (position, number_is, holds) = (are.held placed).0 has in
    let same : is.position ≡ position = omega (arith, is.number_is) in
    let line = rw same at is.at in
    let above = rw same at is.again in (
      above.other + 1,
      omega (arith, above.above),
      (are.held _).1 (
        above.other,
        refl,
        record {
          value = holds.value;
          line = (
            above.is ∙ sym line ∙ holds.line.0,
            captured_above (group_name agent lines) above holds.line.1,
          );
          utf8 = holds.utf8;
          pattern = holds.pattern;
        },
      ),
    )

abbrev IsFollowed : List LineValue → ℕ → Bool → Type 0
IsFollowed lines position has_rule =
    (line : LineValue) → is_rule line ≡ true → IsAbove lines position line → has_rule ≡ true

never_lost : (has_rule : Bool) → (if has_rule then with_rule no_rule false else no_rule).is_lost ≡ false
never_lost true = refl
never_lost false = refl

-- what rules deny depends only on which there are
denied_by_same : (rules others : List Rule) (text : List ℕ)
    → ((rule : Rule) → Contains rules rule ↔ Contains others rule) → IsDenied rules text
    → IsDenied others text
denied_by_same rules others text same (differs, p, has, fits, longest) =
    (differs, p, (same (p, false)).0 has, fits, λ q listed. longest q ((same (q, true)).1 listed))

pub holds_among : (P : ℕ → Type 0) (numbers : List ℕ) → All P numbers → (number : ℕ)
    → among numbers number ≡ true → P number
holds_among P numbers all number is = grind (arith, in_named)

repeat_at : {lines : List LineValue} {position : ℕ} {line : LineValue} → slice_get lines position ≡ Some line
    → IsRepeat lines (position + 1) → (is_rule line ≡ true) × IsAbove lines position line
repeat_at {position} at is =
    let same : is.position ≡ position = omega (arith, is.number_is) in
    let there = rw same at is.at in
    let again = rw same at is.again in grind arith

module _ (numbers : List ℕ) (lines : List LineValue)
    (repeats : (number : ℕ) → among numbers number ≡ true → IsRepeat lines number) where
  keeps : (position : ℕ) (rest : List LineValue) (has_rule : Bool) → IsFrom lines position rest
      → IsFollowed lines position has_rule
      → keep_blocks_from (among numbers) (if has_rule then with_rule no_rule false else no_rule) position rest
      ≡ true
  keeps position [] has_rule from is = rw (never_lost has_rule) refl
  keeps position (line ∷ rest) has_rule from is =
      let at = here from in
      let later = λ (has : Bool). keeps (position + 1) rest has (from_next from) in
      let ruled = later true (λ _ _ _. refl) in
      let repeat = λ (goes : among numbers (position + 1) ≡ true).
      repeat_at at (repeats (position + 1) goes) in
      elim (cases_Bool (is_rule line)) [
        | inl rule ↦ (grind arith)
        | inr isnt ↦
            let stays = false_from_ne_true (among numbers (position + 1))
            (grind arith) in
            elim (cases_Bool (is_agent line)) [
              | inl agent ↦ rw (isnt, stays, agent, never_lost has_rule) (later false (grind arith))
              | inr plain ↦ (grind arith)
            ]
      ]

  module _ (agent : List ℕ) where
    abbrev rules : List PlacedRule
    rules = placed_rules agent lines

    abbrev kept : List PlacedRule
    kept = without numbers rules

    kept_rule : (n : ℕ) (placed : PlacedRule) → placed.line ≤ n → Contains rules placed
        → Contains (unplaced kept) placed.rule
    kept_rule zero placed most has =
        let (place, on, holds) = ((placed_are_rules agent lines).held placed).0 has in absurd (omega arith)
    kept_rule (suc n) placed most has = elim (cases_Bool (among numbers placed.line)) [
      | inl goes ↦
          let (line, above, listed) =
          rule_above (placed_are_rules agent lines) placed has (repeats placed.line goes) in
          kept_rule n (record { rule = placed.rule; line = line }) (omega arith) listed
      | inr stays ↦ unplaced_of kept placed (to_filter _ rules placed has (rw stays refl))
    ]

    same_rules : (rule : Rule) → Contains (unplaced rules) rule ↔ Contains (unplaced kept) rule
    same_rules rule = (
      λ has.
          let (placed, listed, is) = placed_of rules rule has in
          subst (Contains (unplaced kept)) is (kept_rule placed.line placed (omega arith) listed),
      λ has.
          let (placed, listed, is) = placed_of kept rule has in
          subst (Contains (unplaced rules)) is (unplaced_of rules placed (in_filter _ rules placed listed).0),
    )

pub verdict_as_before : (agent : List ℕ) (lines : List LineValue) (numbers text : List ℕ) (answer : Bool)
    → All (IsRepeat lines) numbers
    → IsVerdict (rules_for agent lines) text answer
    ↔ IsVerdict (rules_for agent (lines_without numbers lines)) text answer
verdict_as_before agent lines numbers text answer all =
    let repeats = holds_among (IsRepeat lines) numbers all in
    let blocks = keeps numbers lines repeats 0 lines false (all_from lines) (grind arith) in
    let same = same_rules numbers lines repeats agent in
    rw (deleted numbers lines blocks agent) (verdicts _ _ text (
      denied_by_same _ _ text same,
      denied_by_same _ _ text (λ rule. ((same rule).1, (same rule).0)),
    ) answer)

-- a file of at most 512,000 bytes, and what is left of it, for a crawler
pub same_left : (numbers file left agent : List ℕ) → length file ≤ file_limit → IsLeftOf numbers file left
    → begin_with_mark (lines_without numbers (file_bodies file)) ≡ false
    → Same agent (lines_read left) agent (lines_without numbers (lines_read file))
same_left numbers file left agent short is front =
    let less = left_within numbers file left is in
    subst₂ (λ (all more : List ℕ).
    Same agent (file_lines more) agent (lines_without numbers (file_lines all)))
    (sym (take_all file_limit file short)) (sym (take_all file_limit left (omega arith)))
    (same_result numbers file left is front agent)
