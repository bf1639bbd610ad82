use Rattle.std.proofs.Common.{◌≡◌, ◌≤◌, ◌+◌, ◌-◌, length}
use Rattle.texting_robots.specs.Internal.Cut.{empty_lines}
use Rattle.texting_robots.proofs.parser.cut.many_empty_lines.Given as goal

-- the bytes that were skipped are empty lines
abbrev pub invariant-loop-rest : goal.invariant-loop-rest
invariant-loop-rest l = record {
  within : length l.rest ≤ length l.text;
  same : empty_lines l.nul_ends l.text
      ≡ length l.text - length l.rest + empty_lines l.nul_ends l.rest;
}

abbrev pub decreases-loop-rest : goal.decreases-loop-rest
decreases-loop-rest l = length l.rest
