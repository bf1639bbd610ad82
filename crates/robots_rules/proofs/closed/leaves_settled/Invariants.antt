use Rattle.std.proofs.Common.{◌≤◌, ◌++◌, All, List, drop, length, ℕ}
use Rattle.robots_rules.specs.Internal.{Agrees, LeavesAgree}
use Rattle.robots_rules.proofs.closed.leaves_settled.Given as goal

abbrev pub decreases-loop-k : goal.decreases-loop-k
decreases-loop-k l = l.k

abbrev pub invariant-loop-k : goal.invariant-loop-k
invariant-loop-k l = record {
  room : l.k ≤ length l.pool;
  settled : (t : List ℕ) → All (Agrees t) l.found.states.items
      → LeavesAgree (l.front ++ t) (drop l.k l.pool);
}
