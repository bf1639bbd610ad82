use Rattle.robots_rules.proofs.side.add_next_bytes.Goals as goal
use Rattle.robots_rules.proofs.SideLemmas.{alike_more}

pub loop-item-preserved : goal.loop-item-preserved
loop-item-preserved c = record {
  adds = λ b has. c.in_ok-add_next_byte.ensures.adds b (c.loop-item.invariant.adds b has);
  alike = alike_more c.loop-item.bytes.items c.add_next_byte.new.bytes.items c.args.items.now
      c.loop-item.item-index c.item-item.result c.loop-item-test.true c.item-item.is
      c.in_ok-add_next_byte.ensures.adds c.loop-item.invariant.alike
      (rw c.rest.ensures at c.in_ok-add_next_byte.ensures.alike);
}
