use Rattle.std.proofs.Common.{◌≡◌, ◌++◌, map}
use Rattle.std.specs.Map.Iter.{deref_pair}
use Rattle.robots_warnings.specs.Internal.Tells.{overruling_at}
use Rattle.robots_warnings.proofs.warnings.warn_of_overruling.Given as goal

abbrev pub invariant-loop-number : goal.invariant-loop-number
invariant-loop-number l = l.found.items ≡ l.fn.found.items ++ map overruling_at (map deref_pair l.yielded)
