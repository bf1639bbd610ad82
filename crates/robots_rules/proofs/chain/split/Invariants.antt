use Rattle.std.proofs.Common.{◌≡◌, false, take, true}
use Rattle.robots_rules.specs.Internal.{chosen}
use Rattle.robots_rules.proofs.chain.split.Given as goal

abbrev pub invariant-loop-k : goal.invariant-loop-k
invariant-loop-k l = record {
  old : chosen true false l.first.items ≡ chosen true false (take l.k l.pool);
  between : chosen true true l.first.items ≡ chosen true false l.second.items;
  new : chosen true true l.second.items ≡ chosen true true (take l.k l.pool);
}
