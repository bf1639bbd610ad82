use Rattle.robots_verdict.proofs.VerdictsLemmas.{adds_next, adds_nothing}
use Rattle.robots_verdict.proofs.report.push_verdicts.Goals as goal

pub loop-url-preserved : goal.loop-url-preserved
loop-url-preserved c = adds_next _ _ c.args.urls.now c.loop-url.url-index _ _ _ _ c.loop-url-test.true
    c.loop-url.invariant c.in_ok-push_verdict.ensures.ok

pub loop-url-init : goal.loop-url-init
loop-url-init c = adds_nothing _ _
