use Rattle.std.proofs.Common.{◌∙◌, ◌==◌, length-drop, arith, sym}
use Rattle.texting_robots.{specs.Pattern.star, proofs.LaneLemmas.prefix_len_add}
use Rattle.texting_robots.proofs.segments.stars_len.Goals as goal

pub loop-rest-preserved : goal.loop-rest-preserved
loop-rest-preserved c =
    let rest = c.loop-rest.rest.now in
    let all = sym c.all_are.ensures ∙ c.if-all_are.true in
    let seen = prefix_len_add (λ b. b == star) 32 rest (omega arith) all in
    grind (arith, length-drop)

pub returns-clause-value : goal.returns-clause-value
returns-clause-value c =
    omega (arith, c.loop-rest.invariant.within, c.loop-rest.invariant.same, c.few_stars_len.ensures.value)
