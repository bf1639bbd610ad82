use Rattle.std.{proofs.Common.◌≡◌, specs.List.list_any}
use Rattle.texting_robots.specs.Callers.{file_lines, placed_rules}
use Rattle.robots_warnings.specs.Internal.Rules.{is_kept_in}
use Rattle.robots_warnings.proofs.replaced.lacks_all.Given as goal

abbrev pub invariant-loop-rule : goal.invariant-loop-rule
invariant-loop-rule l = record {
  can_next : (goal.iterator-loop-rule).can_next l.rule-iterator;
  is_finite : (goal.iterator-loop-rule).is_finite l.rule-iterator;
  all : list_any (is_kept_in l.denied) l.rule-iterator
      ≡ list_any (is_kept_in l.denied) (placed_rules l.agent (file_lines l.site));
}
