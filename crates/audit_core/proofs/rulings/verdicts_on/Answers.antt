use Rattle.audit_core.specs.{Audit.IsVerdictOn, Internal.rules_by}
use Rattle.audit_core.proofs.AuditLemmas.{zip_next}
use Rattle.audit_core.proofs.rulings.verdicts_on.Goals as goal

pub loop-url-preserved : goal.loop-url-preserved
loop-url-preserved c =
    rw c.in_ok-push.ensures.items
    (zip_next (IsVerdictOn c.args.robot.now.rules (rules_by c.args.standard.now)) (λ url. url.now)
    c.args.urls.now c.loop-url.url-index _ c.loop-url.verdicts.items _ c.loop-url-test.true
    c.loop-url.invariant c.in_ok-verdict_on.ensures.ok)
