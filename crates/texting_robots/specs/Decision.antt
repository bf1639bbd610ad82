-- Which line decides, and how many looks (counted byte comparisons) this takes.
use Rattle.std.specs.Prelude.{◌≡◌, ◌≢◌, ◌⊎◌, ℕ, ◌*◌, ◌<◌, ◌≤◌, nat_le, true, false, List, Option, Some, None}
use Rattle.std.specs.Prelude.{Contains, count_by, length}
use Rattle.texting_robots.specs.{View.LooksAtMost, View.ViewValue, Rules.PlacedRule, Rules.unplaced}
use Rattle.texting_robots.specs.{declared.decision.Decision.Decision, Pattern.Matches}
use Rattle.texting_robots.specs.Verdict.{IsVerdict, robots_file}

-- the rule matches the text, and no matching rule is longer
pub record IsLongestMatch (rules : List PlacedRule) (text : List ℕ) (placed : PlacedRule) : Type 0 where
  pub listed : Contains rules placed
  pub matches : Matches placed.rule.0 text
  pub longest : (other : PlacedRule) → Contains rules other → Matches other.rule.0 text
      → length other.rule.0 ≤ length placed.rule.0

-- `one` is longer; or it is as long, and an Allow if `other` is a Disallow, or of the same kind in an earlier
-- line
abbrev pub IsBetter : PlacedRule → PlacedRule → Type 0
IsBetter one other =
    (length other.rule.0 < length one.rule.0)
    ⊎ ((length one.rule.0 ≡ length other.rule.0)
    × (((one.rule.1 ≡ true) × (other.rule.1 ≡ false))
    ⊎ ((one.rule.1 ≡ other.rule.1) × (one.line < other.line))))

-- the rule matches the text, and no matching rule is better
pub record IsDecidingRule (rules : List PlacedRule) (text : List ℕ) (placed : PlacedRule) : Type 0 where
  pub listed : Contains rules placed
  pub matches : Matches placed.rule.0 text
  pub best : (other : PlacedRule) → Contains rules other → Matches other.rule.0 text
      → ¬ IsBetter other placed

-- the line of the deciding rule, or `None` for `/robots.txt` and if no rule matches
abbrev pub IsDecidingLine : List PlacedRule → List ℕ → Option ℕ → Type 0
IsDecidingLine rules text None =
    (text ≡ robots_file)
    ⊎ ((placed : PlacedRule) → Contains rules placed → ¬ Matches placed.rule.0 text)
IsDecidingLine rules text (Some line) =
    (text ≢ robots_file) × (placed : PlacedRule) × IsDecidingRule rules text placed
    × (placed.line ≡ line)

abbrev pub as_long_as : PlacedRule → List PlacedRule → ℕ
as_long_as placed rules =
    count_by (λ (other : PlacedRule). nat_le (length placed.rule.0) (length other.rule.0)) rules

-- at most 2 × (length of the text) looks are taken for each rule; if some rule matches, only rules count
-- that are at least as long as the longest matching one
pub record LooksForRules (rules : List PlacedRule) (old new : ViewValue) : Type 0 where
  pub all : LooksAtMost old new (2 * length old.text * length rules)
  pub tried : (placed : PlacedRule) → IsLongestMatch rules old.text placed
      → LooksAtMost old new (2 * length old.text * as_long_as placed rules)

-- the rules' verdict on the match target, and the number of the line that decides
pub record IsDecisionOn (rules : List PlacedRule) (target : List ℕ) (decision : Decision) : Type 0 where
  pub verdict : IsVerdict (unplaced rules) target decision.allowed
  pub deciding : IsDecidingLine rules target decision.line
