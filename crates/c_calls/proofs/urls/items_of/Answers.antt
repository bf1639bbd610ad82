use Rattle.std.proofs.{Common.arith, lemmas.Iterator.Consumers.map_from_collect}
use Rattle.std.proofs.{lemmas.Iterator.Splits.YieldsList-from_str_split}
use Rattle.c_calls.proofs.urls.items_of.Goals as goal

pub returns : goal.returns
returns c =
    let split = c.split.ensures in
    map_from_collect _ c.collect.ensures.ran
    (YieldsList-from_str_split 10 c.args.text.now (omega arith) split.text split.has_more split.pattern)
