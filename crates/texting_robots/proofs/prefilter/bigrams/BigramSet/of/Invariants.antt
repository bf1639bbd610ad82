use Rattle.std.{proofs.Common.◌≡◌, proofs.Common.length, specs.Int.RustNames.bit_or}
use Rattle.texting_robots.specs.Internal.Segments.{pair_set}
use Rattle.texting_robots.proofs.prefilter.bigrams.BigramSet.of.Given as goal

abbrev pub invariant-loop-rest : goal.invariant-loop-rest
invariant-loop-rest l = bit_or l.bits (pair_set l.rest) ≡ pair_set l.fn.text

abbrev pub decreases-loop-rest : goal.decreases-loop-rest
decreases-loop-rest l = length l.rest
