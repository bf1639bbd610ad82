use Rattle.std.proofs.Common.{take}
use Rattle.robots_rules.specs.Internal.{IsAfter}
use Rattle.robots_rules.proofs.state.along.Given as goal

abbrev pub invariant-loop-byte : goal.invariant-loop-byte
invariant-loop-byte l = IsAfter (take l.byte-index l.text) l.initial.state l.state
