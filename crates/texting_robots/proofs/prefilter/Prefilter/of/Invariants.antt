use Rattle.std.{proofs.Common.drop, specs.Int.RustNames.bit_or}
use Rattle.texting_robots.{specs.Internal.Segments.AreWithin, proofs.FirstLemmas.segment_pairs}
use Rattle.texting_robots.proofs.prefilter.Prefilter.of.Given as goal

abbrev pub invariant-loop-segment : goal.invariant-loop-segment
invariant-loop-segment l =
    let inside = l.pattern-inside in
    let bytes = inside.bytes.now in
    AreWithin
    (bit_or l.pairs.bits (segment_pairs bytes inside.ends.ending (drop l.segment-index inside.segments.now)))
    (segment_pairs bytes inside.ends.ending inside.segments.now)
