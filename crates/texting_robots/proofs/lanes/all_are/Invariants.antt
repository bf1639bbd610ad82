use Rattle.std.proofs.Common.{◌≡◌, ◌==◌, take}
use Rattle.std.specs.List.{list_all}
use Rattle.texting_robots.proofs.lanes.all_are.Given as goal

abbrev pub invariant-loop-other : goal.invariant-loop-other
invariant-loop-other l = l.all ≡ list_all (λ b. b == l.byte) (take l.other-index l.bytes)
