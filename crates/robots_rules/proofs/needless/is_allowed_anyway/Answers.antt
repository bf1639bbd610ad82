use Rattle.std.proofs.Common.{rules}
use Rattle.robots_rules.proofs.ReplacedLemmas.{allowed_anyway}
use Rattle.robots_rules.proofs.needless.is_allowed_anyway.Goals as goal

pub returns : goal.returns
returns c = λ _.
    allowed_anyway c.args.rules.now c.args.at c.index-rules-at.result c.requires c.index-rules-at.is
    (search rules)
    (c.has_rival.ensures c.if-has_rival.false)
