use Rattle.texting_robots.proofs.CutLemmas.{each_text_has_one_cut}
use Rattle.texting_robots.proofs.laws.each_text_has_one_cut.Goals as goal

pub returns : goal.returns
returns c = each_text_has_one_cut
