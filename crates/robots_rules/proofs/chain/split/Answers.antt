use Rattle.std.proofs.Common.{◌∙◌, false, sym, true}
use Rattle.robots_rules.proofs.chain.split.Goals as goal
use Rattle.robots_rules.proofs.PoolLemmas.{copy_more, extended}

pub loop-k-preserved : goal.loop-k-preserved
loop-k-preserved c =
    let pool = c.args.pool.now in
    let entry = c.index-pool-k.result in
    let one = c.copy.ensures in
    let two = c.copy-in-loop-k.ensures in record {
      old = copy_more false pool _ _ c.loop-k.k entry c.copy.result c.loop-k-test.true c.index-pool-k.is
          one.item one.old c.in_ok-push.ensures.items c.loop-k.invariant.old;
      between = extended true false _ _ c.copy.result _ _ c.copy-in-loop-k.result
          c.in_ok-push.ensures.items c.in_ok-push-2.ensures.items (one.item ∙ sym two.item)
          (one.new ∙ sym two.old) c.loop-k.invariant.between;
      new = copy_more true pool _ _ c.loop-k.k entry c.copy-in-loop-k.result c.loop-k-test.true
          c.index-pool-k.is two.item two.new c.in_ok-push-2.ensures.items c.loop-k.invariant.new;
    }
