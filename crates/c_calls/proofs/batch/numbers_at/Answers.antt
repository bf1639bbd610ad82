use Rattle.std.proofs.Common.{IsUtf8, SFits, rules, w64, ◌∙◌}
use Rattle.std.proofs.lemmas.{Int.to_z-of_z, Result.err_from_is_err_and, Slice.Zip.AllZip-long}
use Rattle.std.proofs.lemmas.List.{drop_all, drop_more, Elements.All-head}
use Rattle.c_calls.proofs.NumberLemmas.{all_so_far, count_pieces, one_more_end, only_memory}
use Rattle.c_calls.proofs.batch.numbers_at.Goals as goal

pub returns-in_err-number-clause-error : goal.returns-in_err-number-clause-error
returns-in_err-number-clause-error c =
    let failed = c.from_residual-in_err-number in
    let p = err_from_is_err_and failed.result failed.ensures.1 in
    let left = drop_more c.args.ends.now c.loop-end.end-index 0 c.loop-end-test.true in
    let so = rw left at c.loop-end.invariant in
    rw (p.1, p.2) (only_memory _ _ (All-head IsUtf8 _ _ so.utf8) c.in_err-number.ensures.error)

pub loop-end-preserved : goal.loop-end-preserved
loop-end-preserved c =
    let left = drop_more c.args.ends.now c.loop-end.end-index 0 c.loop-end-test.true in
    let so = rw left at c.loop-end.invariant in
    let fits : SFits w64 c.in_ok-number.number = search rules in
    rw (c.in_ok-push.ensures.items, to_z-of_z w64 c.in_ok-number.number fits)
    (one_more_end _ _ _ _ _ _ _ _ so c.in_ok-number.ensures.ok)

pub returns-clause-ok : goal.returns-clause-ok
returns-clause-ok c =
    let so = rw (drop_all c.loop-end.end-index c.args.ends.now (search rules)) at c.loop-end.invariant in
    all_so_far _ _ _ _ _ so

pub returns-clause-count : goal.returns-clause-count
returns-clause-count c =
    let so = rw (drop_all c.loop-end.end-index c.args.ends.now (search rules)) at c.loop-end.invariant in
    AllZip-long _ _ _ (all_so_far _ _ _ _ _ so) ∙ count_pieces _ _ _
