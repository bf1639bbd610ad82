use Rattle.std.proofs.Common.{◌≡◌, ◌+◌, ◌≤◌, length}
use Rattle.texting_robots.specs.Pattern.{collapsed}
use Rattle.texting_robots.proofs.segments.collapsed_len.Given as goal

abbrev pub invariant-loop-byte : goal.invariant-loop-byte
invariant-loop-byte l = record {
  fits : l.len + length l.rest ≤ length l.pattern;
  counted : l.len + length (collapsed l.rest) ≡ length (collapsed l.pattern);
}

abbrev pub decreases-loop-byte : goal.decreases-loop-byte
decreases-loop-byte l = length l.rest
