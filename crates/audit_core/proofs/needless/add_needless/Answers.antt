use Rattle.std.proofs.lemmas.Result.{on_ok_weaker}
use Rattle.audit_core.proofs.AddedLemmas.{more_none}
use Rattle.audit_core.proofs.needless.add_needless.Goals as goal

pub returns : goal.returns
returns c =
    let rules = rw c.deref.ensures.value at c.in_ok-add_rules.ensures in
    rw (← c.needless.view_is)
    (on_ok_weaker c.add_undecided.result (λ more. more_none rules more) c.add_undecided.ensures)
