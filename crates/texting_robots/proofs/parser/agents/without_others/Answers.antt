use Rattle.std.proofs.{Common.◌∙◌, Common.arith, lemmas.Grind.common_steps}
use Rattle.texting_robots.proofs.AgentLemmas.{other_first}
use Rattle.texting_robots.proofs.parser.agents.without_others.Goals as goal

pub returns-in-len1-up-clause-named : goal.returns-in-len1-up-clause-named
returns-in-len1-up-clause-named c name =
    c.after_others.ensures.named name
    ∙ other_first name _ _ c.in-len1-up.len_at_least
    (grind (arith, common_steps, c.may_begin.ensures, c.if-not-may_begin.true))
