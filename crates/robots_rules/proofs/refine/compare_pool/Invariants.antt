use Rattle.std.proofs.Common.{◌≡◌, false, true}
use Rattle.robots_rules.specs.Internal.{chosen}
use Rattle.robots_rules.proofs.refine.compare_pool.Given as goal

abbrev pub invariant-loop : goal.invariant-loop
invariant-loop l = record {
  old : chosen true false l.pool.items ≡ chosen true false l.initial.pool.items;
  new : chosen true true l.pool.items ≡ chosen true true l.initial.pool.items;
}
