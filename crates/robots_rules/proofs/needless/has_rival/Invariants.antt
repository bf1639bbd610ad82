use Rattle.std.proofs.Common.{All, take}
use Rattle.robots_rules.specs.{Search.IsNoRival}
use Rattle.robots_rules.proofs.needless.has_rival.Given as goal

abbrev pub invariant-loop-other : goal.invariant-loop-other
invariant-loop-other l = All (IsNoRival l.least l.rule) (take l.other-index l.rules)
