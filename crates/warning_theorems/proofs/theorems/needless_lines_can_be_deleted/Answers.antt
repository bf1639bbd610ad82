use Rattle.warning_theorems.proofs.TheoremLemmas.{robot_stays}
use Rattle.warning_theorems.proofs.theorems.needless_lines_can_be_deleted.Goals as goal

pub returns : goal.returns
returns c = robot_stays
