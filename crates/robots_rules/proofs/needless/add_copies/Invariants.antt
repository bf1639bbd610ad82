use Rattle.std.proofs.Common.{◌≡◌, ◌++◌, take}
use Rattle.robots_rules.proofs.needless.add_copies.Given as goal

abbrev pub invariant-loop-rule : goal.invariant-loop-rule
invariant-loop-rule l = l.to.items ≡ l.fn.to.items ++ take l.rule-index l.rules
