use Rattle.std.proofs.Common.{◌≡◌, ◌++◌}
use Rattle.texting_robots.specs.Callers.{file_lines, placed_rules}
use Rattle.robots_rules.proofs.rule.rules_of.Given as goal

abbrev pub invariant-loop-rule : goal.invariant-loop-rule
invariant-loop-rule l = record {
  can_next : (goal.iterator-loop-rule).can_next l.rule-iterator;
  is_finite : (goal.iterator-loop-rule).is_finite l.rule-iterator;
  all : l.rules.items ++ l.rule-iterator ≡ placed_rules l.agent (file_lines l.site);
}
