use Rattle.std.proofs.Common.{◌≡◌, false, take, true}
use Rattle.robots_rules.specs.Internal.{chosen}
use Rattle.robots_rules.proofs.refine.refined.Given as goal

abbrev pub invariant-loop-number : goal.invariant-loop-number
invariant-loop-number l = record {
  old : chosen true false l.made.items ≡ chosen true false (take l.number l.pool);
  new : chosen true true l.made.items ≡ chosen true true (take l.number l.pool);
}
