use Rattle.std.proofs.Common.{◌≡◌, ◌++◌, length, map}
use Rattle.texting_robots.specs.Callers.{label_by_value}
use Rattle.robots_warnings.specs.Positions.{later_delays, later_delays_from}
use Rattle.robots_warnings.proofs.positions.later_delays.Given as goal

abbrev pub invariant-loop-rest : goal.invariant-loop-rest
invariant-loop-rest l =
    l.found.items ++ later_delays_from l.first (map label_by_value l.rest)
    ≡ later_delays (map label_by_value l.labels)

abbrev pub decreases-loop-rest : goal.decreases-loop-rest
decreases-loop-rest l = length l.rest
