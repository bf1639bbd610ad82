use Rattle.std.proofs.Common.{List, subst, ap}
use Rattle.texting_robots.specs.{Robot.RobotValue, Rules.PlacedRule, Rules.unplaced, Verdict.IsVerdict}
use Rattle.texting_robots.proofs.robot.Robot.allowed_prepared.Goals as goal

pub returns : goal.returns
returns c =
    let text = c.as_bytes.result.now in
    rw (← c.as_bytes.ensures.value)
    (subst (λ (rules : List PlacedRule). IsVerdict (unplaced rules) text c.allow.result)
    (ap (λ (robot : RobotValue). robot.rules) c.self.view_is) c.allow.ensures)
