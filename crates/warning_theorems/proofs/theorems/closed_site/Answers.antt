use Rattle.warning_theorems.proofs.ConflictLemmas.{closed_site}
use Rattle.warning_theorems.proofs.theorems.closed_site.Goals as goal

pub returns : goal.returns
returns c = closed_site
