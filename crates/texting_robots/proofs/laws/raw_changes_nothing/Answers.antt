use Rattle.texting_robots.proofs.TheoremLemmas.{raw_changes_nothing}
use Rattle.texting_robots.proofs.laws.raw_changes_nothing.Goals as goal

pub returns : goal.returns
returns c = raw_changes_nothing
