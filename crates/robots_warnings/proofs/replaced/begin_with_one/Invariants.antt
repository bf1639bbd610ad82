use Rattle.std.proofs.Common.{◌≡◌, ℕ, List, length, map}
use Rattle.std.specs.Str.{str_to_ascii_lowercase}
use Rattle.texting_robots.specs.Callers.{file_lines, label_by_value}
use Rattle.robots_warnings.specs.{Closed.is_lacking, File.lines_of, Positions.begin_with_one}
use Rattle.robots_warnings.proofs.replaced.begin_with_one.Given as goal

abbrev pub invariant-loop-rest : goal.invariant-loop-rest
invariant-loop-rest l =
    let agents = map (λ agent. agent.now) l.agents in
    let test = λ (name : List ℕ). is_lacking agents (file_lines l.site) (str_to_ascii_lowercase name) in
    begin_with_one test (lines_of (map label_by_value l.rest))
    ≡ begin_with_one test (lines_of (map label_by_value l.labels))

abbrev pub decreases-loop-rest : goal.decreases-loop-rest
decreases-loop-rest l = length l.rest
