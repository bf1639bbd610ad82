use Rattle.texting_robots.proofs.DelayNumbers.{micros_rounded}
use Rattle.texting_robots.proofs.parser.delay.Number.micros.Goals as goal

pub returns : goal.returns
returns c =
    let position = rw (← c.self.view_is) at c.micros_digits-whole.ensures in
    let rounded = micros_rounded _ c.micros_digits-whole.result c.self.invariant position in
    rw (← c.self.view_is) cc
