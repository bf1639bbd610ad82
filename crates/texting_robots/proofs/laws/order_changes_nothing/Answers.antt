use Rattle.texting_robots.proofs.VerdictLemmas.{order_changes_nothing}
use Rattle.texting_robots.proofs.laws.order_changes_nothing.Goals as goal

pub returns : goal.returns
returns c = order_changes_nothing
