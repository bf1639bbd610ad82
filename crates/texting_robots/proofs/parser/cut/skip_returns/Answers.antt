use Rattle.std.proofs.Common.{◌∙◌, arith, sym}
use Rattle.texting_robots.proofs.CutFromFront.{past_returns}
use Rattle.texting_robots.proofs.parser.cut.skip_returns.Goals as goal

pub loop-rest-preserved : goal.loop-rest-preserved
loop-rest-preserved c =
    let rest = c.loop-rest.rest.now in
    let all = sym c.all_are.ensures ∙ c.if-all_are.true in
    rw c.split_at.ensures.back
    (cc (past_returns c.args.nul_ends 32 rest all (omega arith)))
