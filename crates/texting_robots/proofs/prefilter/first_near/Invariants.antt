use Rattle.std.proofs.Common.{◌≤◌, ◌-◌, length, max}
use Rattle.texting_robots.specs.Internal.Segments.{AreApart}
use Rattle.texting_robots.proofs.prefilter.first_near.Given as goal

abbrev pub invariant-loop-at : goal.invariant-loop-at
invariant-loop-at l =
    record {
      from : l.from ≤ l.at;
      within : l.at ≤ max l.from (length l.masks);
      apart : AreApart l.masks l.text l.from l.at;
    }

abbrev pub decreases-loop-at : goal.decreases-loop-at
decreases-loop-at l = length l.masks - l.at
