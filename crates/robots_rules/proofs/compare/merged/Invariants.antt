use Rattle.std.proofs.Common.{◌≡◌, ◌≤◌, ◌+◌, ◌-◌, false, length, take, true}
use Rattle.robots_rules.specs.Internal.{chosen}
use Rattle.robots_rules.proofs.compare.merged.Given as goal

abbrev pub decreases-loop-i : goal.decreases-loop-i
decreases-loop-i l = (length l.old - l.i) + (length l.new - l.j)

abbrev pub invariant-loop-i : goal.invariant-loop-i
invariant-loop-i l = record {
  old_room : l.i ≤ length l.old;
  new_room : l.j ≤ length l.new;
  old : chosen true false l.pool.items ≡ take l.i l.old;
  new : chosen true true l.pool.items ≡ take l.j l.new;
}
