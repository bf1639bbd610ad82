use Rattle.std.proofs.Common.{arith, inl, inr}
use Rattle.std.proofs.lemmas.{Grind.common_steps, List.drop_more}
use Rattle.std.specs.{BTreeSet.contains, Ordering.nat_cmp}
use Rattle.texting_robots.specs.Callers.{file_lines, placed_rules}
use Rattle.texting_robots.proofs.Shared.{placed_are_rules}
use Rattle.robots_warnings.specs.Conflicts.{IsConflict}
use Rattle.robots_warnings.proofs.RuleLemmas.{for_agent}
use Rattle.robots_warnings.proofs.conflicts.rule_lines.Goals as goal

pub loop-agent-preserved : goal.loop-agent-preserved
loop-agent-preserved c =
    let agents = c.args.agents.now in
    let at = c.loop-agent.agent-index in
    let lines = file_lines c.args.site.now in
    let is_empty = contains nat_cmp c.args.empty.now in
    let below = c.loop-agent-test.true in
    let was = c.loop-agent.invariant in
    let added = rw (c.deref.ensures.value, c.in_ok-rules.ensures) at c.in_ok-add_conflicts.ensures in
    let more = rw (c.deref-in-loop-agent.ensures.value, c.in_ok-rules.ensures) at
    c.in_ok-add_overruling.ensures in
    record {
      conflicts = λ number other has. elim (added number other has) [
        | inl old ↦ was.conflicts number other old
        | inr opposed ↦
            for_agent (λ agent. IsConflict is_empty agent lines number other) agents at _ below
            (record { rules = placed_rules _ lines; are = placed_are_rules _ lines; opposed = opposed })
      ];
      overruling = λ number. grind (arith, common_steps, drop_more, was.overruling number, more number);
    }
