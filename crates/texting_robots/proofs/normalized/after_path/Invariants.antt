use Rattle.std.proofs.Common.{length}
use Rattle.texting_robots.specs.Internal.Normalized.{IsPath, Leaves}
use Rattle.texting_robots.proofs.normalized.after_path.Given as goal

abbrev pub invariant-loop-rest : goal.invariant-loop-rest
invariant-loop-rest l = Leaves IsPath l.text l.rest

abbrev pub decreases-loop-rest : goal.decreases-loop-rest
decreases-loop-rest l = length l.rest
