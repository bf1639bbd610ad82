use Rattle.std.proofs.Common.{◌≡◌, length}
use Rattle.safe_output.specs.Bytes.{trim_blanks_start}
use Rattle.safe_output.proofs.bytes.trim_blanks_start.Given as goal

abbrev pub invariant-loop-rest : goal.invariant-loop-rest
invariant-loop-rest l = trim_blanks_start l.rest ≡ trim_blanks_start l.text

abbrev pub decreases-loop-rest : goal.decreases-loop-rest
decreases-loop-rest l = length l.rest
