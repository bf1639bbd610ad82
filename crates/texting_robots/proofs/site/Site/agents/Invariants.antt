use Rattle.std.proofs.Common.{◌≡◌, ◌++◌, map}
use Rattle.texting_robots.{specs.Agents.agents_in, specs.Executable.file_lines, proofs.SiteNameLemmas.left_at}
use Rattle.texting_robots.proofs.site.Site.agents.Given as goal

abbrev pub invariant-loop-position : goal.invariant-loop-position
invariant-loop-position l =
    map (λ agent. agent.now) l.agents.items ++ left_at l.position l.self-inside.names
    ≡ agents_in (file_lines l.self)
