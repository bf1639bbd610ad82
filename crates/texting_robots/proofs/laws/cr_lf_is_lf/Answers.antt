use Rattle.texting_robots.proofs.CrLfLemmas.{cr_lf_is_lf}
use Rattle.texting_robots.proofs.laws.cr_lf_is_lf.Goals as goal

pub returns : goal.returns
returns c = cr_lf_is_lf
