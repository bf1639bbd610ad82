use Rattle.std.proofs.Common.{◌∙◌, ap, false, true}
use Rattle.audit_core.specs.Reach.{plain_rules}
use Rattle.audit_core.proofs.ReachLemmas.{like_plain}
use Rattle.audit_core.proofs.reach.whole_reach.Goals as goal

pub returns-in-Same : goal.returns-in-Same
returns-in-Same c =
    like_plain true c.args.rules.now _
    (c.deref.ensures.value ∙ c.in_ok-others.ensures ∙ ap plain_rules c.if-is_open.true)
    (rw c.in-Same.is at c.in_ok-compare.ensures)

pub returns-in-Same-2 : goal.returns-in-Same-2
returns-in-Same-2 c =
    like_plain false c.args.rules.now _
    (c.deref.ensures.value ∙ c.in_ok-others.ensures ∙ ap plain_rules c.if-is_open.false)
    (rw c.in-Same-2.is at c.in_ok-compare.ensures)
