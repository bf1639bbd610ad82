use Rattle.std.proofs.Common.{◌≡◌, take}
use Rattle.robots_rules.proofs.side.are_same_items.Given as goal

abbrev pub invariant-loop-k : goal.invariant-loop-k
invariant-loop-k l = take l.k l.one ≡ take l.k l.other
