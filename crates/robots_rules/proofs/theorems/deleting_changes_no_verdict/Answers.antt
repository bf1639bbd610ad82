use Rattle.robots_rules.proofs.CrawlerLemmas.{each_alike}
use Rattle.robots_rules.proofs.theorems.deleting_changes_no_verdict.Goals as goal

pub returns : goal.returns
returns c = λ lines numbers are agent utf8. (each_alike numbers lines are agent utf8).verdicts
