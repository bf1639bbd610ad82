use Rattle.std.proofs.{Common.arith, Common.◌==◌, lemmas.List.Splits.length-slice_split}
use Rattle.c_calls.specs.{Verdicts.lf}
use Rattle.c_calls.proofs.urls.count_items.Goals as goal

pub returns : goal.returns
returns c =
    let feeds = rw c.as_bytes.ensures.value at c.count_feeds.ensures.value in
    omega (arith, length-slice_split (λ byte. byte == lf) c.args.text.now, feeds)
