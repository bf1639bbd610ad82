use Rattle.std.proofs.Common.{◌+◌, ◌-◌, ◌*◌, ◌≤◌, length}
use Rattle.texting_robots.proofs.FirstLemmas.{AreTried}
use Rattle.texting_robots.proofs.rules.RuleTable.first_match.Given as goal

abbrev pub invariant-rules : goal.invariant-rules
invariant-rules g l =
    let old = g.A.Haystack.seen l.fn.haystack in
    let now = g.A.Haystack.seen l.haystack in
    record {
      within : l.at ≤ l.len;
      end : l.end ≤ l.len;
      tried : AreTried l.self old now l.at;
      cost : now.looks ≤ old.looks + 2 * length old.text * l.at;
    }

abbrev pub decreases-rules : goal.decreases-rules
decreases-rules g l = l.len - l.end

abbrev pub invariant-loop-at : goal.invariant-loop-at
invariant-loop-at g l =
    let old = g.A.Haystack.seen l.fn.haystack in
    let now = g.A.Haystack.seen l.haystack in
    record {
      within : l.at ≤ l.len;
      tried : AreTried l.self old now l.at;
      cost : now.looks ≤ old.looks + 2 * length old.text * l.at;
    }

abbrev pub decreases-loop-at : goal.decreases-loop-at
decreases-loop-at g l = l.end - l.at
