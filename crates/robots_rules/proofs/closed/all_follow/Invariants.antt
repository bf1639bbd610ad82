use Rattle.std.proofs.Common.{All, take}
use Rattle.robots_rules.specs.Internal.{IsFollowed}
use Rattle.robots_rules.proofs.closed.all_follow.Given as goal

abbrev pub invariant-loop-byte : goal.invariant-loop-byte
invariant-loop-byte l = All (IsFollowed l.found.states.items l.state) (take l.byte-index l.bytes)
