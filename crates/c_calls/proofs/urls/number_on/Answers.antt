use Rattle.std.proofs.Common.{rules}
use Rattle.c_calls.proofs.NumberLemmas.{line_below, written_says}
use Rattle.c_calls.proofs.urls.number_on.Goals as goal

pub number_of-requires : goal.number_of-requires
number_of-requires c =
    line_below c.args.robot.now.rules c.args.target.now c.decide_prepared.result.line c.requires
    c.decide_prepared.ensures.line

pub returns : goal.returns
returns c =
    let is = c.decide_prepared.ensures in
    written_says c.args.robot.now.rules c.args.target.now _ _ c.requires is.verdict is.line _
    c.number_of.ensures (search rules)
