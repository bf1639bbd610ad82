use Rattle.texting_robots.proofs.MainTheoremLemmas.{robot_answers, lines_satisfy, unanswered}
use Rattle.texting_robots.proofs.in_file.allowed_in_file.Goals as goal

pub returns-in_err-robot-clause-answer : goal.returns-in_err-robot-clause-answer
returns-in_err-robot-clause-answer c = λ lines rules file are.
    unanswered c.args.agent.now _ lines rules _ _ _ file c.from_residual.ensures.1
    c.in_err-robot.ensures.rejected

pub returns-clause-answer : goal.returns-clause-answer
returns-clause-answer c = λ lines rules file are.
    robot_answers c.args.agent.now lines rules _ _ _ _
    (lines_satisfy _ _ c.in_ok-robot.ensures.robot lines file) are c.allowed_view.ensures.verdict
    c.allowed_view.ensures.looks
