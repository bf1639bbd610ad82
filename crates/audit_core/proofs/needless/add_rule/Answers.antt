use Rattle.std.proofs.Common.{rules}
use Rattle.audit_core.proofs.AddedLemmas.{rule_added}
use Rattle.audit_core.proofs.needless.add_rule.Goals as goal

pub returns : goal.returns
returns c = rule_added _ _ _ c.in_ok-push.ensures.items (search rules)
