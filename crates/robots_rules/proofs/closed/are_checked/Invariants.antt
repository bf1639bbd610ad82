use Rattle.std.proofs.Common.{All, take}
use Rattle.robots_rules.specs.Internal.{IsChecked}
use Rattle.robots_rules.proofs.closed.are_checked.Given as goal

abbrev pub invariant-loop-state : goal.invariant-loop-state
invariant-loop-state l = All (IsChecked l.found.states.items) (take l.state-index l.states)
