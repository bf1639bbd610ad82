use Rattle.std.proofs.Common.{◌≡◌}
use Rattle.texting_robots.{specs.View.seen_of, proofs.FirstLemmas.cost_upto}
use Rattle.texting_robots.proofs.rules.Rules.cost.Given as goal

abbrev pub invariant-loop-entry : goal.invariant-loop-entry
invariant-loop-entry l = l.cost ≡ seen_of (cost_upto l.self-inside.table l.len l.entry-index)
