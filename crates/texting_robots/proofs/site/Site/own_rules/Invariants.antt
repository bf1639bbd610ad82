use Rattle.std.proofs.Common.{◌≡◌, ◌++◌}
use Rattle.std.specs.{List.All}
use Rattle.texting_robots.specs.{Pattern.IsOverlong, Internal.Segments.AreEntries, Internal.Segments.rules_in}
use Rattle.texting_robots.specs.{Rules.PlacedRule, Executable.file_lines, Executable.placed_rules}
use Rattle.texting_robots.proofs.site.Site.own_rules.Given as goal

abbrev pub invariant-loop-rule : goal.invariant-loop-rule
invariant-loop-rule l = record {
  can_next : (goal.iterator-loop-rule).can_next l.rule-iterator;
  is_finite : (goal.iterator-loop-rule).is_finite l.rule-iterator;
  known : AreEntries l.own;
  rules : rules_in l.own ++ l.rule-iterator ≡ placed_rules l.agent (file_lines l.self);
  accepted : All (λ (placed : PlacedRule). IsOverlong placed.rule.0 → ⊥) (rules_in l.own);
}
