use Rattle.std.proofs.{Common.arith, Common.sym, lemmas.List.length-take-le, lemmas.List.take_rest}
use Rattle.std.specs.Int.Bits.{or_self}
use Rattle.texting_robots.proofs.FirstLemmas.{ends_within}
use Rattle.texting_robots.proofs.prefilter.end_pairs.Goals as goal

pub slice_bounds-of-end : goal.slice_bounds-of-end
slice_bounds-of-end c = sym (length-take-le 32 c.args.segment.now (omega arith))

pub returns-then-len-gt64 : goal.returns-then-len-gt64
returns-then-len-gt64 c =
    rw (c.and.ensures, c.of.ensures, c.of-then-len-gt64.ensures, take_rest)
    (ends_within c.args.segment.now 32 _)

pub returns : goal.returns
returns c = rw c.of-2.ensures (or_self _)
