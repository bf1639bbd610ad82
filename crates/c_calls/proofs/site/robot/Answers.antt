use Rattle.c_calls.specs.File.{read_text}
use Rattle.c_calls.proofs.NumberLemmas.{why_rejected}
use Rattle.c_calls.proofs.site.robot.Goals as goal

pub returns-in_err-robot-clause-error : goal.returns-in_err-robot-clause-error
returns-in_err-robot-clause-error c =
    let agent = c.in_ok-agent.ensures.ok in
    why_rejected c.from_residual-in_err-robot.result c.args.agent.now (read_text c.args.site.now)
    c.in_err-robot.field-0.0
    c.from_residual-in_err-robot.ensures.1 agent.1 (rw agent.0 at c.in_err-robot.ensures.rejected)
