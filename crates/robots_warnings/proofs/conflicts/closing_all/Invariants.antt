use Rattle.std.proofs.Common.{◌≡◌, ◌||◌, drop, is_some}
use Rattle.std.specs.{BTreeSet.contains, List.list_any, Ordering.nat_cmp}
use Rattle.robots_warnings.specs.Conflicts.{closes_all, opens_all}
use Rattle.robots_warnings.proofs.conflicts.closing_all.Given as goal

abbrev pub invariant-loop-rule : goal.invariant-loop-rule
invariant-loop-rule l = record {
  closed : (is_some l.line || list_any closes_all (drop l.rule-index l.rules)) ≡ list_any closes_all l.rules;
  opened : list_any (opens_all (contains nat_cmp l.empty)) (drop l.rule-index l.rules)
      ≡ list_any (opens_all (contains nat_cmp l.empty)) l.rules;
}
