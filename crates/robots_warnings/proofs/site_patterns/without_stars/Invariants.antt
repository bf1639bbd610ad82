use Rattle.std.proofs.Common.{◌≡◌, length}
use Rattle.robots_warnings.specs.Closed.{without_stars}
use Rattle.robots_warnings.proofs.site_patterns.without_stars.Given as goal

abbrev pub invariant-loop-rest : goal.invariant-loop-rest
invariant-loop-rest l = without_stars l.rest ≡ without_stars l.value

abbrev pub decreases-loop-rest : goal.decreases-loop-rest
decreases-loop-rest l = length l.rest
