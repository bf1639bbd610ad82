use Rattle.std.proofs.Common.{rules}
use Rattle.robots_rules.proofs.LeftLemmas.{same_delay}
use Rattle.robots_rules.proofs.same.have_same_delay.Goals as goal

pub returns : goal.returns
returns c = λ is.
    same_delay c.args.agent.now c.args.site.now c.args.other.now c.delay.result c.delay-2.result
    c.delay.ensures c.delay-2.ensures (search rules)
