use Rattle.std.proofs.{Common.drop, lemmas.List.Sorted.sum_by-IsPermutation}
use Rattle.texting_robots.proofs.Shared.{placed_are_rules, rules_permuted}
use Rattle.warning_theorems.proofs.GroupLemmas.{from_drop, replacing}
use Rattle.warning_theorems.proofs.theorems.group_without_star_rules.Goals as goal

pub returns-clause-group : goal.returns-clause-group
returns-clause-group c agents lines number (position, number_is, passes) =
    let (value, agent, at, among, own, none) = replacing agents lines position (drop position lines)
    (record { each = from_drop lines position }) passes in
    (position, value, agent, number_is, at, among, own, none)

pub returns-clause-count : goal.returns-clause-count
returns-clause-count c lines rules are = search (rules_permuted, placed_are_rules, sum_by-IsPermutation)
