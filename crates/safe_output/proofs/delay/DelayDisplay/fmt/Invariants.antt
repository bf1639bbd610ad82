use Rattle.std.proofs.Common.{◌<◌}
use Rattle.safe_output.proofs.delay.DelayDisplay.fmt.Given as goal

abbrev pub invariant-loop : goal.invariant-loop
invariant-loop g l = l.rest < 1000000
