use Rattle.std.proofs.Common.{◌≡◌, length}
use Rattle.std.specs.{List.list_any, Str.str_to_ascii_lowercase}
use Rattle.texting_robots.specs.{Group.is_agent, Group.is_agent_named, Executable.delay_before_agents}
use Rattle.texting_robots.proofs.RulesLemmas.{delay_from}
use Rattle.texting_robots.proofs.groups.group_for.Given as goal

abbrev pub invariant-loop-line : goal.invariant-loop-line
invariant-loop-line l =
    let is_its = is_agent_named (str_to_ascii_lowercase l.agent) in
    record {
      named : list_any is_its l.left ≡ list_any is_its l.fn.lines;
      agents : list_any is_agent l.left ≡ list_any is_agent l.fn.lines;
      delay : delay_from l.last l.left ≡ delay_before_agents l.fn.lines;
    }

abbrev pub decreases-loop-line : goal.decreases-loop-line
decreases-loop-line l = length l.left
