use Rattle.std.proofs.Common.{◌≤◌, ◌<◌, ◌+◌, ℕ, slice_index_or}
use Rattle.texting_robots.specs.{Rules.Rule}
use Rattle.robots_rules.specs.Internal.{rank_of}
use Rattle.robots_rules.proofs.compare.is_ascending.Given as goal

abbrev pub invariant-loop-k : goal.invariant-loop-k
invariant-loop-k l = (j : ℕ) (d : Rule) → j + 1 < l.k
    → rank_of (slice_index_or l.items j d) ≤ rank_of (slice_index_or l.items (j + 1) d)
