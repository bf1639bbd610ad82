use Rattle.std.proofs.{Common.SFits, Common.rules, Common.w64, lemmas.Int.to_z-of_z}
use Rattle.std.proofs.lemmas.{List.take_all, Slice.Zip.AllZip-long}
use Rattle.c_calls.specs.Verdicts.{IsVerdictFor}
use Rattle.c_calls.proofs.NumberLemmas.{lines_fit, one_more_target}
use Rattle.c_calls.proofs.urls.verdicts_for.Goals as goal

pub number_for-requires : goal.number_for-requires
number_for-requires c = lines_fit _ c.requires

pub loop-url-preserved : goal.loop-url-preserved
loop-url-preserved c =
    let number = c.in_ok-number_for.field-0 in
    let fits : SFits w64 number = search rules in
    rw (c.in_ok-push.ensures.items, to_z-of_z w64 number fits)
    (one_more_target (IsVerdictFor c.args.robot.now) (λ url. url.now) _ _ _ _ _ c.loop-url-test.true
    c.loop-url.invariant c.in_ok-number_for.ensures)

pub returns : goal.returns
returns c =
    let all =
    rw (take_all _ _ c.loop-url-test.false, c.deref-url-items.ensures.value, c.in_ok-urls.ensures)
    at c.loop-url.invariant in
    record { verdicts = all; count = AllZip-long _ _ _ all }
