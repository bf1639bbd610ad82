use Rattle.std.proofs.{Common.SFits, Common.rules, Common.subst, Common.w64, lemmas.Int.to_z-of_z}
use Rattle.c_calls.specs.{Verdicts.IsVerdictOn}
use Rattle.c_calls.proofs.{NumberLemmas.one_more_target}
use Rattle.c_calls.proofs.matrix.verdicts_on.Goals as goal

pub loop-target-preserved : goal.loop-target-preserved
loop-target-preserved c =
    let number = c.number_on.result in
    let fits : SFits w64 number = search rules in
    let R = IsVerdictOn c.args.robot.now.rules in
    let is = rw (c.deref.ensures, c.target-item.is) at c.number_on.ensures in
    rw (c.in_ok-push.ensures.items, to_z-of_z w64 number fits)
    (one_more_target R _ _ _ _ _ number c.loop-target-test.true c.loop-target.invariant is)
