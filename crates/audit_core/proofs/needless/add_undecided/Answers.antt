use Rattle.std.proofs.Common.{[], refl}
use Rattle.audit_core.proofs.AddedLemmas.{more_added, none_added, one_added}
use Rattle.audit_core.proofs.needless.add_undecided.Goals as goal

pub loop-line-init : goal.loop-line-init
loop-line-init c = none_added c.args.found.now.items

pub loop-line-preserved : goal.loop-line-preserved
loop-line-preserved c =
    more_added {one = []} {two = []} c.loop-line.invariant (one_added _ c.in_ok-push.ensures.items refl refl)
