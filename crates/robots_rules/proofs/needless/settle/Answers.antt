use Rattle.robots_rules.proofs.TogetherLemmas.{permuted, reduced_more}
use Rattle.robots_rules.proofs.needless.settle.Goals as goal

pub returns : goal.returns
returns c =
    reduced_more c.args.rules.items c.in_ok-left.left.items _ c.in_ok-left.ensures
    (permuted _ _ c.by_line.ensures)
