use Rattle.std.proofs.Common.{Bool, false, true}
use Rattle.robots_rules.proofs.refine.refined.Goals as goal
use Rattle.robots_rules.proofs.PoolLemmas.{copy_more}

pub loop-number-preserved : goal.loop-number-preserved
loop-number-preserved c =
    let more = λ (new : Bool). copy_more new c.args.pool.now c.loop-number.made.items c.push.new.self.items
    c.loop-number.number c.index-pool-number.result c.copy.result c.loop-number-test.true
    c.index-pool-number.is c.copy.ensures.item in record {
      old = more false c.copy.ensures.old c.in_ok-push.ensures.items c.loop-number.invariant.old;
      new = more true c.copy.ensures.new c.in_ok-push.ensures.items c.loop-number.invariant.new;
    }
