use Rattle.std.proofs.Common.{arith}
use Rattle.robots_rules.proofs.item.matches_all.Goals as goal
use Rattle.robots_rules.proofs.MatchLemmas.{all_match}

pub returns : goal.returns
returns c = λ _ t. all_match c.args.rest.now c.stars-k.result t (omega arith) (c.stars-k.ensures.alike t)
