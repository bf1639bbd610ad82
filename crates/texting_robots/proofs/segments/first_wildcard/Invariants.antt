use Rattle.std.proofs.Common.{◌≡◌, ◌+◌, ◌≤◌, length}
use Rattle.std.specs.List.{position_or_len}
use Rattle.texting_robots.specs.Internal.Segments.{is_wildcard}
use Rattle.texting_robots.proofs.segments.first_wildcard.Given as goal

-- the bytes before the rest hold no wildcard
abbrev pub invariant-loop-rest : goal.invariant-loop-rest
invariant-loop-rest l =
    record {
      within : length l.rest ≤ length l.pattern;
      seen : position_or_len is_wildcard l.pattern + length l.rest
          ≡ length l.pattern + position_or_len is_wildcard l.rest;
    }

abbrev pub decreases-loop-rest : goal.decreases-loop-rest
decreases-loop-rest l = length l.rest
