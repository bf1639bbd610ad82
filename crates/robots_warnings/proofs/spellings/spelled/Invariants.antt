use Rattle.std.proofs.Common.{length}
use Rattle.robots_warnings.proofs.spellings.spelled.Given as goal

abbrev pub decreases-loop-rest : goal.decreases-loop-rest
decreases-loop-rest l = length l.rest
