use Rattle.texting_robots.proofs.TheoremLemmas.{agent_case}
use Rattle.texting_robots.proofs.laws.agent_case.Goals as goal

pub returns : goal.returns
returns c = agent_case
