use Rattle.std.proofs.Common.{◌≡◌, ◌||◌, ℕ, List, drop}
use Rattle.std.specs.{HashSet.contains_text, List.list_any}
use Rattle.robots_warnings.specs.Closed.{denies}
use Rattle.robots_warnings.proofs.replaced.denied_patterns.Given as goal

abbrev pub invariant-loop-rule : goal.invariant-loop-rule
invariant-loop-rule l = (pattern : List ℕ)
    → (contains_text l.denied pattern || list_any (denies pattern) (drop l.rule-index l.rules))
    ≡ list_any (denies pattern) l.rules
