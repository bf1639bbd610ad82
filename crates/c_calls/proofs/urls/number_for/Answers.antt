use Rattle.std.proofs.{Common.SFits, Common.rules, Common.w64, lemmas.Int.to_z-of_z}
use Rattle.c_calls.proofs.NumberLemmas.{line_below, written_says}
use Rattle.c_calls.proofs.urls.number_for.Goals as goal

pub number_of-requires : goal.number_of-requires
number_of-requires c =
    line_below c.args.robot.now.robot.rules _ c.in_ok-decision.decision.line c.requires
    c.in_ok-decision.ensures.line

pub returns-then-robot : goal.returns-then-robot
returns-then-robot c =
    let fits : SFits w64 c.number_on.result = search rules in
    rw (c.if-robot.true, to_z-of_z w64 c.number_on.result fits)
    (rw (c.as_str.ensures, c.in_ok-target.ensures) at c.number_on.ensures)

pub returns : goal.returns
returns c =
    let is = c.in_ok-decision.ensures in
    rw c.if-robot.false
    (written_says c.args.robot.now.robot.rules _ _ _ c.requires is.verdict is.line _ c.number_of.ensures
    (search rules))
