use Rattle.std.proofs.Common.{◌∙◌, length-drop, arith, sym}
use Rattle.texting_robots.{specs.Internal.Cut.is_feed, proofs.LaneLemmas.prefix_len_add}
use Rattle.texting_robots.proofs.parser.cut.many_empty_lines.Goals as goal

pub loop-rest-preserved : goal.loop-rest-preserved
loop-rest-preserved c =
    let rest = c.loop-rest.rest.now in
    let all = sym c.all_feed.ensures ∙ c.if-all_feed.true in
    let seen = prefix_len_add (is_feed c.args.nul_ends) 32 rest (omega arith) all in
    grind (arith, length-drop)

pub returns-clause-value : goal.returns-clause-value
returns-clause-value c =
    omega (arith, c.loop-rest.invariant.within, c.loop-rest.invariant.same, c.few_empty_lines.ensures.value)
