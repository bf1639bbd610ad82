use Rattle.texting_robots.specs.Callers.{IsRejected}
use Rattle.texting_robots.proofs.Shared.{has_lines, not_rejected}
use Rattle.robots_rules.proofs.same.accept.Goals as goal

pub returns : goal.returns
returns c rejected =
    let agent = c.args.agent.now in
    let file = c.args.site.now in
    let (_, sitemaps, is) = c.in-Ok.ensures.robot in
    not_rejected agent file _ is (has_lines file (IsRejected agent) rejected)
