use Rattle.std.proofs.Common.{arith, length-drop}
use Rattle.texting_robots.proofs.CutFromFront.{front_seen}
use Rattle.texting_robots.proofs.parser.cut.body_len.Goals as goal

pub returns-then-len-lt-LANES-clause-value : goal.returns-then-len-lt-LANES-clause-value
returns-then-len-lt-LANES-clause-value c =
    let seen =
    front_seen c.args.nul_ends c.loop-rest.rest.now 32 _ (omega arith) c.body_len_in-len.ensures in
    omega (arith, seen.0 (omega arith))

pub loop-rest-preserved : goal.loop-rest-preserved
loop-rest-preserved c =
    let seen =
    front_seen c.args.nul_ends c.loop-rest.rest.now 32 _ (omega arith) c.body_len_in-len.ensures in
    grind (arith, length-drop, seen.1)
