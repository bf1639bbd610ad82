-- Rules that contradict each other, and empty Disallows.
use Rattle.std.specs.Prelude.{[], ℕ, Bool, false, filter, slice_get, Contains, bytes_eq, if◌then◌else◌}
use Rattle.std.specs.Prelude.{length, ◌≡◌, ◌+◌, ◌==◌, not, ◌&&◌, List, Some, true, codes}
use Rattle.std.specs.{List.list_any}
use Rattle.texting_robots.specs.Callers.{Label, LineValue, PlacedRule, AreRulesFor, placed_rules}
use Rattle.texting_robots.specs.{Statement.IsStatement, declared.parser.statement.Kind.TheVariants.Disallow}
use Rattle.rfc9309.specs.{EmptyDisallow.is_empty_disallow}
use Rattle.robots_warnings.specs.{Closed.is_whole_site}

-- ---- Empty Disallows. Each is an Allow of `/` here, and no rule for RFC 9309 and Google.

-- of the lines with these contents, the one with this number is a Disallow without a value
abbrev pub IsEmptyDisallow : List (List ℕ) → ℕ → Type 0
IsEmptyDisallow bodies number =
    (position : ℕ) × (body : List ℕ) × (number ≡ position + 1) × (slice_get bodies position ≡ Some body)
    × IsStatement Disallow [] body

-- the rules where an empty Disallow is none; `is_empty` holds for the numbers of these
abbrev pub stated_rules : (is_empty : ℕ → Bool) → List PlacedRule → List PlacedRule
stated_rules is_empty rules = filter (λ placed. not (is_empty placed.line)) rules

-- the line with this number is one; by the theorem `empty_disallows` of `warning_theorems` this agrees with
-- `IsEmptyDisallow`
abbrev pub is_empty_at : List Label → ℕ → Bool
is_empty_at labels number =
    list_any (λ label. is_empty_disallow label.line label.body && label.number == number) labels

-- `/` in place of `*`, which matches the same paths and is as long, so that an Allow of one wins over a
-- Disallow of the other
abbrev pub compared : List ℕ → List ℕ
compared pattern = if bytes_eq pattern (codes "*") then codes "/" else pattern

-- the line with this number is a Disallow among these rules, and the other one an Allow, which isn't an empty
-- Disallow, with the same pattern, where `/` and `*` are the same
pub record AreOpposed (is_empty : ℕ → Bool) (rules : List PlacedRule) (number other : ℕ) : Type 0 where
  pub pattern : List ℕ
  pub allowed : List ℕ
  pub same : compared allowed ≡ compared pattern
  pub disallow : Contains rules (record { rule = (pattern, false); line = number })
  pub allow : Contains rules (record { rule = (allowed, true); line = other })
  pub stated : is_empty other ≡ false

-- there are two such rules that apply to the crawler
pub record IsConflict (is_empty : ℕ → Bool) (agent : List ℕ) (lines : List LineValue) (number other : ℕ)
    : Type 0 where
  pub rules : List PlacedRule
  pub are : AreRulesFor agent lines rules
  pub opposed : AreOpposed is_empty rules number other

-- the pattern is `/` or `*`: it matches the whole site, and has one byte
abbrev pub is_of_all : List ℕ → Bool
is_of_all pattern = is_whole_site pattern && length pattern == 1

abbrev pub closes_all : PlacedRule → Bool
closes_all placed = not placed.rule.1 && is_of_all placed.rule.0

-- an Allow, and not an empty Disallow
abbrev pub opens_all : (is_empty : ℕ → Bool) → PlacedRule → Bool
opens_all is_empty placed = (placed.rule.1 && not (is_empty placed.line)) && is_of_all placed.rule.0

-- a Disallow of `/` or `*` is among these rules, but no Allow of these
abbrev pub are_closed : (ℕ → Bool) → List PlacedRule → Bool
are_closed is_empty rules = list_any closes_all rules && not (list_any (opens_all is_empty) rules)

abbrev pub is_empty_rule : (is_empty : ℕ → Bool) → (number : ℕ) → PlacedRule → Bool
is_empty_rule is_empty number placed = is_empty placed.line && placed.line == number

-- an empty Disallow in the line with this number overrules such a Disallow
abbrev pub is_overruling : (ℕ → Bool) → (number : ℕ) → List PlacedRule → Bool
is_overruling is_empty number rules =
    are_closed is_empty rules && list_any (is_empty_rule is_empty number) rules

-- the empty Disallow overrules a Disallow for one of these crawlers
abbrev pub overrules_for_one : (ℕ → Bool) → List (List ℕ) → List LineValue → (number : ℕ) → Bool
overrules_for_one is_empty agents lines number =
    list_any (λ agent. is_overruling is_empty number (placed_rules agent lines)) agents
