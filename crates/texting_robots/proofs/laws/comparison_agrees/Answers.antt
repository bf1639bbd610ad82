use Rattle.texting_robots.proofs.VerdictLemmas.{less_is_before, equal_is_same}
use Rattle.texting_robots.proofs.laws.comparison_agrees.Goals as goal

pub returns : goal.returns
returns c = record {
  less = less_is_before;
  equal = equal_is_same;
}
