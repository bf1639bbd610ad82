use Rattle.std.proofs.Common.{◌≡◌, List, true, ℕ}
use Rattle.texting_robots.proofs.Shared.{matches}
use Rattle.robots_rules.specs.Internal.{passed}
use Rattle.robots_rules.proofs.item.stars.Given as goal

abbrev pub invariant-loop-k : goal.invariant-loop-k
invariant-loop-k l = (t : List ℕ) → matches true l.rest t ≡ matches true (passed l.k l.rest) t
