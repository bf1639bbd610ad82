use Rattle.robots_rules.proofs.CrawlerLemmas.{rules_of_star}
use Rattle.robots_rules.proofs.theorems.others_have_the_rules_of_star.Goals as goal

pub returns : goal.returns
returns c = rules_of_star
