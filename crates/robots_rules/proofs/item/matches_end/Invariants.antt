use Rattle.std.proofs.Common.{◌≡◌, [], drop, true}
use Rattle.texting_robots.proofs.Shared.{matches}
use Rattle.robots_rules.proofs.item.matches_end.Given as goal

abbrev pub invariant-loop-k : goal.invariant-loop-k
invariant-loop-k l = matches true (drop l.k l.rest) [] ≡ matches true l.rest []
