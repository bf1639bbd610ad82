use Rattle.std.proofs.Common.{◌≡◌, drop}
use Rattle.std.specs.HashSet.{contains_text}
use Rattle.robots_warnings.specs.Closed.{closes, first_closing, leaves_closed, first_line}
use Rattle.robots_warnings.specs.Internal.Closed.{IsNeeded}
use Rattle.robots_warnings.proofs.closed.first_closing.Given as goal

abbrev pub invariant-loop-rule : goal.invariant-loop-rule
invariant-loop-rule l = record {
  needed : IsNeeded (leaves_closed (contains_text l.exempt)) l.rules l.needed;
  all : first_line (closes (leaves_closed (contains_text l.exempt)) l.rules) (drop l.rule-index l.rules)
      ≡ first_closing (contains_text l.exempt) l.rules;
}
