use Rattle.std.proofs.{Common.drop, Common.arith, lemmas.List.length-drop, lemmas.List.take_rest}
use Rattle.std.specs.{Int.Bits.or_zero_r}
use Rattle.texting_robots.proofs.FirstLemmas.{no_pairs, pairs_step, two_pairs}
use Rattle.texting_robots.proofs.prefilter.bigrams.BigramSet.of.Goals as goal

pub loop-rest-preserved : goal.loop-rest-preserved
loop-rest-preserved c =
    let rest = c.loop-rest.rest.now in
    rw (take_rest rest 2)
    (two_pairs _ _ _ _ rest c.in-len3-up.len_at_least c.bit_of-bits.ensures c.bit_of-bits-in-len3-up.ensures
    c.loop-rest.invariant)

pub returns-in-len2-up : goal.returns-in-len2-up
returns-in-len2-up c =
    let rest = c.loop-rest.rest.now in
    let none = no_pairs (drop 1 rest) (omega (arith, length-drop 1 rest)) in
    rw (none, or_zero_r)
    at (pairs_step c.loop-rest.bits _ _ rest c.in-len2-up.len_at_least c.bit_of.ensures c.loop-rest.invariant)

pub returns-in_default-rest : goal.returns-in_default-rest
returns-in_default-rest c =
    let none = no_pairs c.loop-rest.rest.now (omega arith) in rw (none, or_zero_r) at c.loop-rest.invariant
