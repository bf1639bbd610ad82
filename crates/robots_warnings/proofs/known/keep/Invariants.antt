use Rattle.robots_warnings.specs.Internal.Tells.{IsSo, Tells}
use Rattle.robots_warnings.proofs.known.keep.Given as goal

abbrev pub invariant-loop-candidate : goal.invariant-loop-candidate
invariant-loop-candidate l = Tells (IsSo l.known) l.fn.found.items l.found.items
