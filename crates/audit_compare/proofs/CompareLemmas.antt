-- What a comparison finds: the verdicts by the same rules.
use Rattle.std.proofs.Common.{◌≡◌, ◌∙◌, ◌↔◌, ℕ, zero, suc, Bool, true, false, List, [], ◌∷◌, ◌++◌, Contains}
use Rattle.std.proofs.Common.{ap, arith, codes, not, refl, subst, ◌==◌, if◌then◌else◌, length, map, sym}
use Rattle.std.proofs.lemmas.{Bool.and_parts, Grind.common_steps}
use Rattle.std.proofs.lemmas.Slice.Eq.{bytes_eq-Decides}
use Rattle.std.proofs.lemmas.List.Folds.{Any-from_list_any}
use Rattle.texting_robots.specs.Callers.{IsDenied, IsVerdict, PlacedRule, Rule, placed_rules}
use Rattle.texting_robots.specs.Callers.{label_by_value, lines_read, rules_for, unplaced}
use Rattle.texting_robots.specs.declared.labels.LabeledLine.{LabeledLine}
use Rattle.robots_rules.specs.Same.{HaveSameVerdicts}
use Rattle.robots_warnings.specs.File.{lines_of}
use Rattle.audit_core.proofs.AuditLemmas.{nil_if_empty}
use Rattle.audit_compare.specs.declared.compared.{Compared.Compared, RuleChanges.RuleChanges}
use Rattle.audit_compare.specs.Compare.{AreChanges, IsCompared, are_none, has_rule, is_same_rule}
use Rattle.audit_compare.specs.Compare.{is_unchanged, rules_lacked}

abbrev Includes : List Rule → List Rule → Type 0
Includes rules others = (rule : Rule) → Contains rules rule → Contains others rule

denied_alike : (rules others : List Rule) (text : List ℕ) → Includes rules others → Includes others rules
    → IsDenied rules text → IsDenied others text
denied_alike rules others text there back (other, pattern, has, matches, longer) = (
  other,
  pattern,
  there (pattern, false) has,
  matches,
  λ q is. longer q (back (q, true) is),
)

verdict_alike : (rules others : List Rule) (text : List ℕ) (allowed : Bool) → Includes rules others
    → Includes others rules → IsVerdict rules text allowed → IsVerdict others text allowed
verdict_alike rules others text true there back allows =
    λ denied. allows (denied_alike others rules text back there denied)
verdict_alike rules others text false there back denied = denied_alike rules others text there back denied

same_rule : (one other : Rule) → is_same_rule one other ≡ true → one ≡ other
same_rule (pattern, true) (text, true) is = ap (λ bytes. (bytes, true)) ((bytes_eq-Decides pattern text).0 is)
same_rule (pattern, true) (text, false) is = absurd (cc)
same_rule (pattern, false) (text, true) is = absurd (cc)
same_rule (pattern, false) (text, false) is =
    ap (λ bytes. (bytes, false)) ((bytes_eq-Decides pattern text).0 is)

has_in : (rules : List PlacedRule) (rule : Rule) → has_rule rules rule ≡ true → Contains (unplaced rules) rule
has_in rules rule is =
    let found = Any-from_list_any (λ (placed : PlacedRule). is_same_rule placed.rule rule) rules is in
    let same : found.1.rule ≡ rule = same_rule found.1.rule rule found.4 in
    subst (Contains (unplaced rules)) same (found.0, grind (arith, common_steps), grind (arith, common_steps))

none_lacked : (others rules : List PlacedRule) → rules_lacked others rules ≡ []
    → Includes (unplaced rules) (unplaced others)
none_lacked others [] none rule (k, below, at) = absurd (omega arith)
none_lacked others (first ∷ rules) none rule has =
    by (has_rule others first.rule) refl none has (λ none. none_lacked others rules none rule)
  where
    by : (found : Bool) → has_rule others first.rule ≡ found
        → (if not found then first ∷ rules_lacked others rules else rules_lacked others rules) ≡ []
        → Contains (unplaced (first ∷ rules)) rule
        → (rules_lacked others rules ≡ [] → Contains (unplaced rules) rule → Contains (unplaced others) rule)
        → Contains (unplaced others) rule
    by false lacked none has later = absurd (cc)
    by true found none (zero, below, at) later =
        subst (Contains (unplaced others)) at (has_in others first.rule found)
    by true found none (suc k, below, at) later = later none (k, omega arith, at)

module _ (older newer : List PlacedRule) where
  pub decide_alike : (text : List ℕ) (allowed : Bool) → rules_lacked newer older ≡ []
      → rules_lacked older newer ≡ []
      → IsVerdict (unplaced older) text allowed ↔ IsVerdict (unplaced newer) text allowed
  decide_alike text allowed removed added =
      let there = none_lacked newer older removed in
      let back = none_lacked older newer added in (
        verdict_alike (unplaced older) (unplaced newer) text allowed there back,
        verdict_alike (unplaced newer) (unplaced older) text allowed back there,
      )

  unchanged_alike : (rules : RuleChanges) → AreChanges older newer rules → are_none rules ≡ true
      → (text : List ℕ) (allowed : Bool)
      → IsVerdict (unplaced older) text allowed ↔ IsVerdict (unplaced newer) text allowed
  unchanged_alike rules are none text allowed =
      let (first, second) = and_parts _ (length rules.added.items == 0) none in
      decide_alike text allowed (sym are.removed_are ∙ nil_if_empty _ first)
      (sym are.added_are ∙ nil_if_empty _ second)

  pub same_verdicts : (rules : RuleChanges) → AreChanges older newer rules → are_none rules ≡ true
      → HaveSameVerdicts (codes "/") (unplaced older) (unplaced newer)
  same_verdicts rules are none text allowed = unchanged_alike rules are none (47 ∷ text) allowed

pub reported_alike : (urls : List (List ℕ)) (older newer agent : List ℕ) (compared : Compared) (text : List ℕ)
    (allowed : Bool) → IsCompared urls older newer agent compared → is_unchanged compared ≡ true
    → IsVerdict (rules_for agent (lines_read older)) text allowed
    ↔ IsVerdict (rules_for agent (lines_read newer)) text allowed
reported_alike urls older newer agent compared text allowed is said =
    unchanged_alike (placed_rules agent (lines_read older)) (placed_rules agent (lines_read newer))
    compared.rules is.rules_are (and_parts _ _ (and_parts _ _ said).1).0 text allowed

pub both_lines : (one two : List LabeledLine)
    → lines_of (map label_by_value (one ++ two))
    ≡ lines_of (map label_by_value one) ++ lines_of (map label_by_value two)
both_lines [] two = refl
both_lines (label ∷ one) two = ap (λ lines. (label_by_value label).line ∷ lines) (both_lines one two)
