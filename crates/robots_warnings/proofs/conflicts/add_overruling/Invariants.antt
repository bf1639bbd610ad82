use Rattle.std.proofs.Common.{◌≡◌, ◌||◌, ℕ, drop, is_some}
use Rattle.std.specs.{BTreeMap.get, BTreeSet.contains, List.list_any, Ordering.nat_cmp}
use Rattle.robots_warnings.specs.Conflicts.{is_empty_rule}
use Rattle.robots_warnings.proofs.conflicts.add_overruling.Given as goal

abbrev pub invariant-loop-rule : goal.invariant-loop-rule
invariant-loop-rule l =
    let test = is_empty_rule (contains nat_cmp l.empty) in
    (number : ℕ) → (is_some (get nat_cmp l.overruling number)
    || list_any (test number) (drop l.rule-index l.rules))
    ≡ (is_some (get nat_cmp l.fn.overruling number) || list_any (test number) l.rules)
