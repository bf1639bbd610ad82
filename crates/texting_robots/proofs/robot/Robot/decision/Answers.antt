use Rattle.std.proofs.Common.{List, subst, ap}
use Rattle.texting_robots.specs.{Robot.RobotValue, Rules.PlacedRule, Rules.unplaced, Verdict.IsVerdict}
use Rattle.texting_robots.proofs.robot.Robot.decision.Goals as goal

pub returns-clause-verdict : goal.returns-clause-verdict
returns-clause-verdict c =
    subst (λ (rules : List PlacedRule).
    IsVerdict (unplaced rules) c.args.view.now.text c.decision.result.allowed)
    (ap (λ (robot : RobotValue). robot.rules) c.self.view_is) c.decision.ensures.verdict
