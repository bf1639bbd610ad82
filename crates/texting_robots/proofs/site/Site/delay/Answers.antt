use Rattle.std.{proofs.Common.ap, proofs.Common.◌∙◌, specs.Option.option_or}
use Rattle.texting_robots.specs.{Executable.delay_before_agents, Executable.file_lines, Rules.IsDelayFor}
use Rattle.texting_robots.proofs.{ExecutableLemmas.delay_is_computed, MainTheoremLemmas.has_lines}
use Rattle.texting_robots.proofs.site.Site.delay.Goals as goal

pub returns : goal.returns
returns c =
    let agent = c.args.agent.now in
    let lines = file_lines c.args.self.now in
    let early = rw c.self.view_is at c.self.invariant.early_is in
    has_lines c.args.self.now (λ lines. IsDelayFor agent lines c.or.result)
    ((delay_is_computed agent lines c.or.result).1 (c.or.ensures
    ∙ ap (λ last. option_or c.own_delay.result last) early
    ∙ ap (λ first. option_or first (delay_before_agents lines)) c.own_delay.ensures))
