use Rattle.std.proofs.Common.{List, drop, ℕ}
use Rattle.robots_rules.specs.Internal.{LeavesAgree, StartsAgree}
use Rattle.robots_rules.proofs.pool.is_known.Given as goal

abbrev pub invariant-loop-entry : goal.invariant-loop-entry
invariant-loop-entry l = (t : List ℕ) → LeavesAgree t l.pool
    → (StartsAgree l.kind t (drop l.entry-index l.pool) → StartsAgree l.kind t l.pool)
    × LeavesAgree t (drop l.entry-index l.pool)
