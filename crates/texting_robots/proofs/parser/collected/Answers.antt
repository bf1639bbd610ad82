use Rattle.std.proofs.{Common.arith, lemmas.Grind.common_steps}
use Rattle.texting_robots.proofs.parser.collected.Goals as goal

pub loop-line-preserved : goal.loop-line-preserved
loop-line-preserved c = grind (arith, common_steps)
