use Rattle.std.proofs.Common.{◌≡◌, take}
use Rattle.texting_robots.specs.Callers.{unplaced}
use Rattle.robots_rules.proofs.same.are_same_rules.Given as goal

abbrev pub invariant-loop-k : goal.invariant-loop-k
invariant-loop-k l = unplaced (take l.k l.rules) ≡ unplaced (take l.k l.others)
