use Rattle.std.proofs.Common.{◌≡◌, take}
use Rattle.audit_compare.specs.Compare.{rules_lacked}
use Rattle.audit_compare.proofs.rule_sets.rules_lacked.Given as goal

abbrev pub invariant-loop-rule : goal.invariant-loop-rule
invariant-loop-rule l = l.lacked.items ≡ rules_lacked l.others (take l.rule-index l.rules)
