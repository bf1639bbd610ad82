use Rattle.std.proofs.Common.{All, map}
use Rattle.texting_robots.specs.Callers.{file_lines, label_by_value}
use Rattle.robots_warnings.specs.{Closed.IsReplacing, File.lines_of}
use Rattle.robots_warnings.proofs.replaced.replacing.Given as goal

abbrev pub invariant-loop-index : goal.invariant-loop-index
invariant-loop-index l =
    All (IsReplacing (map (λ agent. agent.now) l.agents) (file_lines l.site)
    (lines_of (map label_by_value l.labels))) l.found.items
