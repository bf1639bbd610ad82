use Rattle.std.proofs.Common.{◌≡◌, ◌⊎◌, ℕ, Some}
use Rattle.std.specs.{BTreeMap.get, BTreeSet.contains, Ordering.nat_cmp}
use Rattle.robots_warnings.specs.Conflicts.{AreOpposed}
use Rattle.robots_warnings.proofs.conflicts.add_conflicts.Given as goal

abbrev pub invariant-loop-rule : goal.invariant-loop-rule
invariant-loop-rule l = (number other : ℕ) → get nat_cmp l.conflicts number ≡ Some other
    → (get nat_cmp l.fn.conflicts number ≡ Some other)
    ⊎ AreOpposed (contains nat_cmp l.empty) l.rules number other
