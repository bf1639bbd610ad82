use Rattle.robots_rules.proofs.state.along.Goals as goal
use Rattle.robots_rules.proofs.SideLemmas.{after_more}

pub loop-byte-preserved : goal.loop-byte-preserved
loop-byte-preserved c =
    after_more c.args.text.now c.loop-byte.byte-index 0 c.args.start c.loop-byte.state c.in_ok-state.state
    c.loop-byte-test.true c.loop-byte.invariant c.in_ok-state.ensures
