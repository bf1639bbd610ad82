use Rattle.std.proofs.Common.{◌+◌, ◌-◌, ◌≤◌, length, max}
use Rattle.texting_robots.proofs.FirstLemmas.{AreTried}
use Rattle.texting_robots.proofs.rules.RuleTable.first_within.Given as goal

abbrev pub invariant-loop-at : goal.invariant-loop-at
invariant-loop-at l =
    record {
      at : l.at ≤ length l.self.entries.items;
      tried : AreTried l.self l.fn.view l.view l.at;
      visits : l.fn.view.looks + l.at ≤ l.view.looks;
      within : l.view.looks ≤ max l.fn.view.looks l.limit;
    }

abbrev pub decreases-loop-at : goal.decreases-loop-at
decreases-loop-at l = length l.self.entries.items - l.at
