use Rattle.std.proofs.Common.{◌≡◌, length}
use Rattle.safe_output.specs.Bytes.{trim_blanks, trim_blanks_end}
use Rattle.safe_output.proofs.bytes.trim_blanks.Given as goal

abbrev pub invariant-loop-rest : goal.invariant-loop-rest
invariant-loop-rest l = trim_blanks_end l.rest ≡ trim_blanks l.text

abbrev pub decreases-loop-rest : goal.decreases-loop-rest
decreases-loop-rest l = length l.rest
