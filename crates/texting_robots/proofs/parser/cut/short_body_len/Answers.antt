use Rattle.std.proofs.Common.{arith}
use Rattle.texting_robots.proofs.CutFromFront.{front_seen}
use Rattle.texting_robots.proofs.parser.cut.short_body_len.Goals as goal

pub returns-then-len-lt-HALF-clause-value : goal.returns-then-len-lt-HALF-clause-value
returns-then-len-lt-HALF-clause-value c = grind (arith, front_seen)
