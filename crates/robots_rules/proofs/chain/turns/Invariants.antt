use Rattle.robots_rules.specs.Internal.{Leads}
use Rattle.robots_rules.proofs.chain.turns.Given as goal

abbrev pub invariant-loop-round : goal.invariant-loop-round
invariant-loop-round l = Leads l.front l.pool.items l.initial.pool.items
