use Rattle.texting_robots.proofs.MainTheoremLemmas.{deciding_line_holds_its_rule}
use Rattle.texting_robots.proofs.laws.deciding_line_holds_its_rule.Goals as goal

pub returns : goal.returns
returns c = deciding_line_holds_its_rule
