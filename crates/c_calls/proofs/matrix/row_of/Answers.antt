use Rattle.std.proofs.Common.{inl}
use Rattle.c_calls.proofs.NumberLemmas.{text_lines_fit}
use Rattle.c_calls.proofs.matrix.row_of.Goals as goal

pub verdicts_on-requires : goal.verdicts_on-requires
verdicts_on-requires c = text_lines_fit _ c.args.agent.now _ c.requires c.in-Ok.ensures.robot

pub returns-in_ok-row-in-Ok : goal.returns-in_ok-row-in-Ok
returns-in_ok-row-in-Ok c = inl (_, c.in-Ok.ensures.robot.2, c.in_ok-row-in-Ok.ensures)
