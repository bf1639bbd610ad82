use Rattle.std.proofs.Common.{List, subst, sym, ◌∙◌, ℕ, arith}
use Rattle.std.proofs.lemmas.Bool.{false≢true}
use Rattle.texting_robots.specs.Robot.{IsRobotOfFile}
use Rattle.texting_robots.proofs.MainTheoremLemmas.{read_nothing, read_sitemaps}
use Rattle.texting_robots.proofs.site.Site.robot.Goals as goal

pub returns-clause-robot : goal.returns-clause-robot
returns-clause-robot c =
    let (none, sitemaps, (lines, are, is)) = rw (← c.robot.view_is) at c.in_ok-robot.ensures.robot in
    let same = read_sitemaps c.args.self.now sitemaps (lines, are, is.sitemaps)
    ∙ sym c.in_ok-sitemaps.ensures.sitemaps in
    subst (λ (all : List (List ℕ)). IsRobotOfFile c.args.agent.now c.args.self.now (record {
      delay = c.robot.inside.delay;
      sitemaps = all;
      rules = c.robot.inside.rules;
    })) same (lines, are, is)

pub returns-in_err-robot-clause-without_memory : goal.returns-in_err-robot-clause-without_memory
returns-in_err-robot-clause-without_memory c = grind (arith, c.in_err-robot.ensures.without_memory)

pub returns-in_err-sitemaps-clause-without_memory : goal.returns-in_err-sitemaps-clause-without_memory
returns-in_err-sitemaps-clause-without_memory c = λ nothing.
    let (rules, sitemaps) = read_nothing c.args.agent.now _ nothing in
    absurd (false≢true (c.in_err-sitemaps.ensures.without_memory sitemaps))
