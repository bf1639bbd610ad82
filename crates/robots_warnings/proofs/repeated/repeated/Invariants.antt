use Rattle.std.proofs.Common.{All, map}
use Rattle.texting_robots.specs.Callers.{label_by_value}
use Rattle.robots_warnings.specs.{File.lines_of, Internal.Values.HasSeen, Repeated.IsRepeat}
use Rattle.robots_warnings.proofs.repeated.repeated.Given as goal

abbrev pub invariant-loop-index : goal.invariant-loop-index
invariant-loop-index l =
    let lines = lines_of (map label_by_value l.labels) in
    record { has : HasSeen l.seen lines l.index; are : All (IsRepeat lines) l.found.items }
