use Rattle.std.proofs.Common.{◌≡◌, drop, map}
use Rattle.std.specs.Str.{str_to_ascii_lowercase}
use Rattle.texting_robots.specs.Callers.{file_lines}
use Rattle.robots_warnings.specs.Closed.{is_lacking}
use Rattle.robots_warnings.proofs.replaced.is_lacking.Given as goal

abbrev pub invariant-loop-agent : goal.invariant-loop-agent
invariant-loop-agent l =
    let lines = file_lines l.site in
    let name = str_to_ascii_lowercase l.name in
    is_lacking (map (λ agent. agent.now) (drop l.agent-index l.agents)) lines name
    ≡ is_lacking (map (λ agent. agent.now) l.agents) lines name
