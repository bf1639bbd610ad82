use Rattle.std.proofs.Common.{◌≡◌, length, drop}
use Rattle.texting_robots.specs.Internal.Cut.{end_len, read_as}
use Rattle.texting_robots.proofs.parser.cut.after_any_end.Given as goal

abbrev pub invariant-loop-rest : goal.invariant-loop-rest
invariant-loop-rest l = drop (end_len (read_as l.nul_ends l.rest)) l.rest
    ≡ drop (end_len (read_as l.nul_ends l.text)) l.text

abbrev pub decreases-loop-rest : goal.decreases-loop-rest
decreases-loop-rest l = length l.rest
