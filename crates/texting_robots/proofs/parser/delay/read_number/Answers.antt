use Rattle.std.proofs.Common.{rules, arith}
use Rattle.texting_robots.proofs.DelayLemmas.{has_digits}
use Rattle.texting_robots.proofs.parser.delay.read_number.Goals as goal

pub invariant_of-result : goal.invariant_of-result
invariant_of-result c = has_digits c.args.text.now _ (search rules) (omega arith)
