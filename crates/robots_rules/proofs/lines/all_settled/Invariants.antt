use Rattle.std.proofs.Common.{◌≡◌, All, map, take}
use Rattle.texting_robots.specs.Callers.{file_lines}
use Rattle.robots_rules.specs.Search.{IsSettled, names_of}
use Rattle.robots_rules.proofs.lines.all_settled.Given as goal

abbrev pub invariant-loop-agent : goal.invariant-loop-agent
invariant-loop-agent l = record {
  names : names_of l.all.items ≡ map (λ agent. agent.now) (take l.agent-index l.crawlers);
  settled : All (IsSettled (file_lines l.site)) l.all.items;
}
