use Rattle.std.proofs.Common.{◌≡◌, ◌+◌, ◌≤◌, length}
use Rattle.texting_robots.specs.Internal.Cut.{body_len, read_as}
use Rattle.texting_robots.proofs.parser.cut.body_len.Given as goal

-- no line ends within the bytes that were skipped
abbrev pub invariant-loop-rest : goal.invariant-loop-rest
invariant-loop-rest l = record {
  within : length l.rest ≤ length l.text;
  passed : body_len (read_as l.nul_ends l.text) + length l.rest
      ≡ body_len (read_as l.nul_ends l.rest) + length l.text;
}

abbrev pub decreases-loop-rest : goal.decreases-loop-rest
decreases-loop-rest l = length l.rest
