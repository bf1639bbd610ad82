use Rattle.std.proofs.Common.{◌≡◌, [], take}
use Rattle.robots_rules.specs.Internal.{last_kind}
use Rattle.robots_rules.proofs.side.kind_at_end.Given as goal

abbrev pub invariant-loop-item : goal.invariant-loop-item
invariant-loop-item l = l.answer ≡ last_kind l.start (take l.item-index l.items) []
