use Rattle.std.proofs.Common.{◌≡◌, map, take}
use Rattle.texting_robots.specs.Callers.{file_lines}
use Rattle.robots_warnings.specs.Closed.{line_closing_site}
use Rattle.robots_warnings.proofs.closed.site_rows.Given as goal

abbrev pub invariant-loop-agent : goal.invariant-loop-agent
invariant-loop-agent l =
    l.rows.items
    ≡ map (λ agent. (line_closing_site (file_lines l.site) agent.now, agent)) (take l.agent-index l.agents)
