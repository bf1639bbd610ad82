use Rattle.std.proofs.Common.{◌-◌, arith, length}
use Rattle.robots_rules.proofs.side.is_last.Goals as goal
use Rattle.robots_rules.proofs.SideLemmas.{last_fits}

pub returns : goal.returns
returns c = λ is start t fits.
    last_fits c.args.items.now (length c.args.items.now - 1) c.index-items-len.result c.args.item.now start
    t
    (omega arith) c.index-items-len.is (c.is_same.ensures is) fits
