use Rattle.std.proofs.Common.{rules}
use Rattle.std.proofs.lemmas.List.{take_all}
use Rattle.audit_core.proofs.AddedLemmas.{next_rule, none_added}
use Rattle.audit_core.proofs.needless.add_rules.Goals as goal

pub loop-rule-init : goal.loop-rule-init
loop-rule-init c = none_added c.args.found.now.items

pub loop-rule-preserved : goal.loop-rule-preserved
loop-rule-preserved c =
    next_rule c.args.rules.now c.loop-rule.rule-index _ c.loop-rule-test.true c.loop-rule.invariant
    c.in_ok-add_rule.ensures

pub returns : goal.returns
returns c = rw (take_all c.loop-rule.rule-index c.args.rules.now (search rules)) at c.loop-rule.invariant
