use Rattle.std.proofs.Common.{◌≡◌}
use Rattle.rfc9309.proofs.StandardLemmas.{decides}
use Rattle.rfc9309.proofs.site.StandardRobot.decision.Goals as goal

pub returns : goal.returns
returns c =
    let found = c.decide_prepared.ensures in
    let robot : c.self.inside.robot ≡ c.args.self.now = cc (c.self.view_is) in
    let text = c.as_str.result.now in
    let is = decides c.self.inside.robot text c.decide_prepared.result found.verdict found.line in
    rw (robot, c.as_str.ensures, c.in_ok-target.ensures) at is
