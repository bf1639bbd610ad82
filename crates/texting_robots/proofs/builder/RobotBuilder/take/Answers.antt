use Rattle.std.proofs.Common.{arith}
use Rattle.texting_robots.proofs.builder.RobotBuilder.take.Goals as goal

pub returns-in-UserAgent-clause-tracker : goal.returns-in-UserAgent-clause-tracker
returns-in-UserAgent-clause-tracker c = grind (arith, c.step.ensures, c.read_seen-first.ensures)
