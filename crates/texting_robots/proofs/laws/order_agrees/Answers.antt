use Rattle.texting_robots.proofs.VerdictLemmas.{before_asymmetric, before_irreflexive, one_holds}
use Rattle.texting_robots.proofs.VerdictLemmas.{before_transitive}
use Rattle.texting_robots.proofs.laws.order_agrees.Goals as goal

pub returns : goal.returns
returns c = record {
  one = one_holds;
  not_both = before_asymmetric;
  not_equal = before_irreflexive;
  transitive = before_transitive;
}
