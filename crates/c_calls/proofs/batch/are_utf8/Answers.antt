use Rattle.std.proofs.lemmas.List.{drop_more}
use Rattle.c_calls.proofs.NumberLemmas.{next_utf8, not_utf8}
use Rattle.c_calls.proofs.batch.are_utf8.Goals as goal

pub returns-in-Err : goal.returns-in-Err
returns-in-Err c =
    let left = drop_more c.args.ends.now c.loop-end.end-index 0 c.loop-end-test.true in
    let same = rw left at c.loop-end.invariant in
    not_utf8 _ _ _ _ _ same c.in-Err.ensures.error.1

pub loop-end-preserved : goal.loop-end-preserved
loop-end-preserved c =
    let left = drop_more c.args.ends.now c.loop-end.end-index 0 c.loop-end-test.true in
    let same = rw left at c.loop-end.invariant in
    next_utf8 _ _ _ _ _ same c.in-Ok.ensures.ok.1
