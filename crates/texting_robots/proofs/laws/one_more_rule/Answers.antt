use Rattle.texting_robots.proofs.VerdictLemmas.{one_more_disallow, one_more_allow}
use Rattle.texting_robots.proofs.laws.one_more_rule.Goals as goal

pub returns : goal.returns
returns c = record {
  disallow = one_more_disallow;
  allow = one_more_allow;
}
