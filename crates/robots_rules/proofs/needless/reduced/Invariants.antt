use Rattle.robots_rules.specs.Search.{IsReducedTo}
use Rattle.robots_rules.proofs.needless.reduced.Given as goal

abbrev pub invariant-loop : goal.invariant-loop
invariant-loop l = IsReducedTo l.fn.rules.items l.left.items
