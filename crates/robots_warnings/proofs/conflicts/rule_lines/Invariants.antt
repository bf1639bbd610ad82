use Rattle.std.proofs.Common.{◌≡◌, ◌||◌, ℕ, Any, List, Some, drop, is_some, map}
use Rattle.std.specs.{BTreeMap.get, BTreeSet.contains, Ordering.nat_cmp}
use Rattle.texting_robots.specs.Callers.{file_lines}
use Rattle.robots_warnings.specs.Conflicts.{IsConflict, overrules_for_one}
use Rattle.robots_warnings.proofs.conflicts.rule_lines.Given as goal

abbrev pub invariant-loop-agent : goal.invariant-loop-agent
invariant-loop-agent l =
    let lines = file_lines l.site in
    let is_empty = contains nat_cmp l.empty in
    let all : List (List ℕ) = map (λ agent. agent.now) l.agents in
    let left : List (List ℕ) = map (λ agent. agent.now) (drop l.agent-index l.agents) in
    record {
      conflicts : (number other : ℕ) → get nat_cmp l.conflicts number ≡ Some other
          → Any (λ agent. IsConflict is_empty agent lines number other) all;
      overruling : (number : ℕ) → (is_some (get nat_cmp l.overruling number)
          || overrules_for_one is_empty left lines number) ≡ overrules_for_one is_empty all lines number;
    }
