use Rattle.std.proofs.{Common.arith, Common.rules, lemmas.Grind.common_steps}
use Rattle.safe_output.proofs.{BytesLemmas.from_first_next}
use Rattle.safe_output.proofs.bytes.from_first.Goals as goal

pub returns-then-test : goal.returns-then-test
returns-then-test g c = λ p computes.
    let told = computes c.loop-rest.rest.now c.test.result (search rules) in
    let whole = c.loop-rest.invariant p computes in
    grind (arith, from_first_next)

pub loop-rest-preserved : goal.loop-rest-preserved
loop-rest-preserved g c = λ p computes.
    let told = computes c.loop-rest.rest.now c.test.result (search rules) in
    let whole = c.loop-rest.invariant p computes in
    grind (arith, common_steps, from_first_next)
