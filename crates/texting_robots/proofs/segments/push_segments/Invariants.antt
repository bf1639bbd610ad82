use Rattle.std.proofs.Common.{length}
use Rattle.texting_robots.proofs.SegmentLemmas.{IsCutUpto}
use Rattle.texting_robots.proofs.segments.push_segments.Given as goal

abbrev pub invariant-loop-following : goal.invariant-loop-following
invariant-loop-following l =
    IsCutUpto l.pattern l.first_len l.fn.segments.items l.segments.items l.fn.borders.items
    l.borders.items l.left

abbrev pub decreases-loop-following : goal.decreases-loop-following
decreases-loop-following l = length l.left
