-- What is found among the rules of a crawler: their lines by their patterns, and sets of patterns.
use Rattle.std.specs.Prelude.{◌≡◌, ℕ, Bool, List, String, not, ◌||◌, ◌&&◌, Any, Some, is_some}
use Rattle.std.specs.HashSet.{HashSet, contains_text}
use Rattle.std.specs.{BTreeMap.get, Global.Global, Ordering.nat_cmp, List.list_any}
use Rattle.texting_robots.specs.Callers.{LineValue, PlacedRule}
use Rattle.robots_warnings.specs.{declared.conflicts.RuleLines.RuleLines, Closed.is_whole_site, Closed.denies}
use Rattle.robots_warnings.specs.Conflicts.{IsConflict, overrules_for_one}

-- the lines for which something is to be reported about the rules of these crawlers
pub record AreOf (is_empty : ℕ → Bool) (agents : List (List ℕ)) (lines : List LineValue) (found : RuleLines)
    : Type 0 where
  pub conflicts : (number other : ℕ) → get nat_cmp found.conflicts number ≡ Some other
      → Any (λ agent. IsConflict is_empty agent lines number other) agents
  pub overruling : (number : ℕ) → is_some (get nat_cmp found.overruling number)
      ≡ overrules_for_one is_empty agents lines number

abbrev pub Patterns : Type 0 → Type 0
Patterns S = HashSet (String Global) S

-- exactly the patterns of the Disallows among the rules
abbrev pub HasDenied : {S : Type 0} → Patterns S → List PlacedRule → Type 0
HasDenied denied rules = (pattern : List ℕ) → contains_text denied pattern ≡ list_any (denies pattern) rules

abbrev pub is_kept_in : {S : Type 0} → Patterns S → PlacedRule → Bool
is_kept_in denied placed =
    is_whole_site placed.rule.0 || (not placed.rule.1 && contains_text denied placed.rule.0)
