use Rattle.robots_rules.proofs.LeftLemmas.{has_whole_lines}
use Rattle.robots_rules.proofs.theorems.each_file_has_whole_lines.Goals as goal

pub returns : goal.returns
returns c = has_whole_lines
