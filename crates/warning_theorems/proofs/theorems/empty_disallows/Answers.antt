use Rattle.warning_theorems.proofs.EmptyDisallowLemmas.{empty_disallows}
use Rattle.warning_theorems.proofs.theorems.empty_disallows.Goals as goal

pub returns : goal.returns
returns c = empty_disallows
