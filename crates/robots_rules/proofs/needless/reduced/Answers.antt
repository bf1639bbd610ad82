use Rattle.robots_rules.proofs.TogetherLemmas.{permuted}
use Rattle.robots_rules.proofs.needless.reduced.Goals as goal

pub loop-init : goal.loop-init
loop-init c = permuted _ _ c.by_rank-left.ensures
