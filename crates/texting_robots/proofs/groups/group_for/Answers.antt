use Rattle.std.proofs.Common.{arith}
use Rattle.texting_robots.proofs.RulesLemmas.{before_agents}
use Rattle.texting_robots.proofs.groups.group_for.Goals as goal

pub loop-line-init : goal.loop-line-init
loop-line-init c = grind (arith, before_agents)
