use Rattle.robots_rules.specs.Internal.{Leads}
use Rattle.robots_rules.proofs.chain.steps.Given as goal

abbrev pub decreases-loop-to : goal.decreases-loop-to
decreases-loop-to l = l.to

abbrev pub invariant-loop-to : goal.invariant-loop-to
invariant-loop-to l = Leads l.front l.pool.items l.initial.pool.items
