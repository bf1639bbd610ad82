use Rattle.texting_robots.proofs.LineLemmas.{each_text_has_its_lines}
use Rattle.texting_robots.proofs.laws.each_text_has_its_lines.Goals as goal

pub returns : goal.returns
returns c = each_text_has_its_lines
