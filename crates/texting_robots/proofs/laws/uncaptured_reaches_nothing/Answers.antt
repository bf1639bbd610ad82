use Rattle.texting_robots.proofs.TheoremLemmas.{uncaptured_reaches_nothing}
use Rattle.texting_robots.proofs.laws.uncaptured_reaches_nothing.Goals as goal

pub returns : goal.returns
returns c = uncaptured_reaches_nothing
