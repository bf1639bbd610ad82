use Rattle.texting_robots.proofs.LineLemmas.{parse_takes_all}
use Rattle.texting_robots.proofs.laws.parse_takes_all.Goals as goal

pub returns : goal.returns
returns c = parse_takes_all
