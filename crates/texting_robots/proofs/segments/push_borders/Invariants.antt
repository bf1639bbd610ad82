use Rattle.std.proofs.Common.{◌≡◌, ◌+◌, ◌-◌, ◌*◌, ◌≤◌, length, vec_capacity, vec_len}
use Rattle.texting_robots.proofs.SearchLemmas.{AddsBorders, IsFirstOpen}
use Rattle.texting_robots.proofs.segments.push_borders.Given as goal

-- the segment is searched for in itself, and the borders of its first `position` bytes were appended
abbrev pub invariant-loop-position : goal.invariant-loop-position
invariant-loop-position l =
    record {
      table : l.table ≡ length l.fn.borders.items;
      within : l.position + 1 ≤ length l.segment;
      first : IsFirstOpen l.segment l.segment 1 (l.position + 1) l.position l.matched;
      adds : AddsBorders l.segment l.fn.borders.items l.borders.items l.position;
      room : vec_len l.borders + length l.segment ≤ vec_capacity l.borders + l.position + 1;
    }

abbrev pub decreases-loop-position : goal.decreases-loop-position
decreases-loop-position l = 2 * (length l.segment - l.position) + l.matched
