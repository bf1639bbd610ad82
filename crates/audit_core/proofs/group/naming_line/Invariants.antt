use Rattle.std.proofs.Common.{◌≡◌, ◌+◌, drop, map}
use Rattle.std.specs.{List.position_from, Str.str_to_ascii_lowercase}
use Rattle.texting_robots.specs.Callers.{is_agent_named, label_by_value}
use Rattle.robots_warnings.specs.{File.lines_of}
use Rattle.audit_core.proofs.group.naming_line.Given as goal

abbrev pub invariant-loop-at : goal.invariant-loop-at
invariant-loop-at l =
    let naming = is_agent_named (str_to_ascii_lowercase l.name) in
    position_from naming (l.at + 1) (lines_of (map label_by_value (drop l.at l.labels)))
    ≡ position_from naming 1 (lines_of (map label_by_value l.labels))
