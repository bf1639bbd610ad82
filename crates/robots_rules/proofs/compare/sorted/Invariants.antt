use Rattle.std.proofs.Common.{◌≡◌, take}
use Rattle.texting_robots.specs.Callers.{unplaced}
use Rattle.robots_rules.proofs.compare.sorted.Given as goal

abbrev pub invariant-loop-rule : goal.invariant-loop-rule
invariant-loop-rule l = l.items.items ≡ unplaced (take l.rule-index l.rules)
