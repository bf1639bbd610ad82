use Rattle.std.proofs.Common.{◌≡◌, length}
use Rattle.std.specs.{List.list_any, Str.str_to_ascii_lowercase}
use Rattle.texting_robots.specs.{Group.is_agent_named, Internal.Cut.read_as, Internal.Line.lines_of}
use Rattle.texting_robots.proofs.parser.LazyLines.name_agent.Given as goal

abbrev pub invariant-loop-rest : goal.invariant-loop-rest
invariant-loop-rest l =
    let names = is_agent_named (str_to_ascii_lowercase l.agent) in
    list_any names (lines_of (read_as l.nul_ends l.rest)) ≡ list_any names l.self

abbrev pub decreases-loop-rest : goal.decreases-loop-rest
decreases-loop-rest l = length l.rest
