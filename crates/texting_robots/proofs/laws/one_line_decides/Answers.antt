use Rattle.texting_robots.proofs.VerdictLemmas.{one_line_decides}
use Rattle.texting_robots.proofs.laws.one_line_decides.Goals as goal

pub returns : goal.returns
returns c = one_line_decides
