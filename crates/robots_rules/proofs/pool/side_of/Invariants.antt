use Rattle.std.proofs.Common.{◌≡◌, List, take, ℕ}
use Rattle.robots_rules.specs.Internal.{chosen, last_kind, verdict}
use Rattle.robots_rules.proofs.pool.side_of.Given as goal

abbrev pub invariant-loop-entry : goal.invariant-loop-entry
invariant-loop-entry l = (t : List ℕ) → verdict l.side t
    ≡ last_kind l.start (chosen l.all l.new (take l.entry-index l.pool)) t
