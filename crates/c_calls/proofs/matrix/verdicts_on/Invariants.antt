use Rattle.std.proofs.Common.{map, string_bytes, take}
use Rattle.std.specs.List.{AllZip}
use Rattle.c_calls.specs.Verdicts.{IsVerdictOn}
use Rattle.c_calls.proofs.matrix.verdicts_on.Given as goal

abbrev pub invariant-loop-target : goal.invariant-loop-target
invariant-loop-target l =
    AllZip (IsVerdictOn l.robot.rules) (map string_bytes (take l.target-index l.targets)) l.row.items
