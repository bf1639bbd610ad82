use Rattle.std.proofs.Common.{arith}
use Rattle.std.proofs.lemmas.Grind.{common_steps}
use Rattle.rfc9309.proofs.TextLemmas.{next_line}
use Rattle.rfc9309.proofs.text.standard_text.Goals as goal

pub unreachable-requires : goal.unreachable-requires
unreachable-requires c = grind (arith, common_steps)

pub loop-body-preserved : goal.loop-body-preserved
loop-body-preserved c =
    let next =
    next_line c.loop-body.below c.in-Some.body.now c.next.new.self c.loop-body.text.items in
    grind (arith, common_steps)
