use Rattle.std.proofs.Common.{arith}
use Rattle.robots_rules.proofs.ReplacedLemmas.{differ_at}
use Rattle.robots_rules.proofs.needless.are_apart.Goals as goal

pub returns-then-one-k : goal.returns-then-one-k
returns-then-one-k c = λ _ text.
    differ_at c.loop-k.k c.args.one.now c.args.other.now text (omega arith) (omega arith) c.loop-k.invariant
    (c.is_special.ensures c.if-is_special.false) (c.is_special-in-loop-k.ensures c.if-is_special-2.false)
    c.if-one-k.true
