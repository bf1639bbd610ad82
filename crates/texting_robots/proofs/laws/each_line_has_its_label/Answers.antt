use Rattle.texting_robots.proofs.LabelLemmas.{each_line_has_its_label}
use Rattle.texting_robots.proofs.laws.each_line_has_its_label.Goals as goal

pub returns : goal.returns
returns c = each_line_has_its_label
