use Rattle.std.proofs.Common.{◌≡◌, ◌||◌, ℕ, length, map}
use Rattle.std.specs.{BTreeSet.contains, Ordering.nat_cmp}
use Rattle.texting_robots.specs.Callers.{label_by_value}
use Rattle.robots_warnings.specs.Conflicts.{is_empty_at}
use Rattle.robots_warnings.proofs.empty_disallows.empty_disallows.Given as goal

abbrev pub invariant-loop-rest : goal.invariant-loop-rest
invariant-loop-rest l =
    (number : ℕ) → (contains nat_cmp l.numbers number || is_empty_at (map label_by_value l.rest) number)
    ≡ is_empty_at (map label_by_value l.labels) number

abbrev pub decreases-loop-rest : goal.decreases-loop-rest
decreases-loop-rest l = length l.rest
