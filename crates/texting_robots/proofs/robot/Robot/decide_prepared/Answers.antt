use Rattle.std.proofs.Common.{List, subst, ap}
use Rattle.texting_robots.specs.{Robot.RobotValue, Rules.PlacedRule, Rules.unplaced, Verdict.IsVerdict}
use Rattle.texting_robots.proofs.robot.Robot.decide_prepared.Goals as goal

pub returns-clause-verdict : goal.returns-clause-verdict
returns-clause-verdict c =
    let text = c.as_bytes.result.now in
    rw (← c.as_bytes.ensures.value)
    (subst (λ (rules : List PlacedRule). IsVerdict (unplaced rules) text c.decide.result.allowed)
    (ap (λ (robot : RobotValue). robot.rules) c.self.view_is) c.decide.ensures.verdict)
