use Rattle.std.proofs.{Common.arith, lemmas.List.drop_all, lemmas.List.drop_more}
use Rattle.std.specs.Int.Bits.{or_self, or_zero_l}
use Rattle.texting_robots.specs.Internal.Segments.{AreWithin, no_segment}
use Rattle.texting_robots.proofs.FirstLemmas.{are_prefilter, segment_pairs, within_moved}
use Rattle.texting_robots.proofs.prefilter.Prefilter.of.Goals as goal

pub loop-segment-init : goal.loop-segment-init
loop-segment-init c = simp (c.none-pairs.ensures, or_zero_l, or_self)

pub loop-segment-preserved : goal.loop-segment-preserved
loop-segment-preserved c =
    let next =
    drop_more c.pattern.inside.segments.now c.loop-segment.segment-index no_segment
    c.loop-segment-test.true in
    grind (arith, within_moved)

pub returns : goal.returns
returns c =
    let pattern = c.pattern.inside.bytes.now in
    let segments = c.pattern.inside.segments.now in
    let ending = c.pattern.inside.ends.ending in
    let none = drop_all c.loop-segment.segment-index segments c.loop-segment-test.false in
    let all : AreWithin c.and.result.bits (segment_pairs pattern ending segments) =
    grind arith in
    rw (← c.pattern.view_is) (are_prefilter _ c.pattern.invariant c.of-head.ensures all)
