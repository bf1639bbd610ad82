use Rattle.std.{proofs.Common.◌≡◌, specs.Str.str_to_ascii_lowercase}
use Rattle.texting_robots.specs.Internal.Group.{captured_ahead}
use Rattle.texting_robots.proofs.groups.GroupTracker.ahead.Given as goal

abbrev pub invariant-loop-line : goal.invariant-loop-line
invariant-loop-line l =
    let name = str_to_ascii_lowercase l.name in
    captured_ahead name l.tracker l.line-iterator ≡ captured_ahead name l.fn.self l.fn.left
