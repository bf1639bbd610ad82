use Rattle.std.proofs.Common.{arith}
use Rattle.texting_robots.proofs.VerdictLemmas.{at_most}
use Rattle.texting_robots.proofs.rules.RuleTable.make_masks.Goals as goal

pub returns : goal.returns
returns c = record {
  known = grind (arith, at_most);
  same = grind arith;
}
