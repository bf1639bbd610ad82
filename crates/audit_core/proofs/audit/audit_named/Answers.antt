use Rattle.std.proofs.Common.{◌∙◌, ap, refl, sym}
use Rattle.audit_core.specs.Audit.{AgentValue}
use Rattle.audit_core.proofs.audit.audit_named.Goals as goal

pub returns-in_ok-audit-in-OtherGroup-clause-ok : goal.returns-in_ok-audit-in-OtherGroup-clause-ok
returns-in_ok-audit-in-OtherGroup-clause-ok c =
    let is = c.in_ok-audit-in-OtherGroup.ensures.ok in
    let which = sym (rw c.requires.here.site_is at c.at_vendor.ensures) ∙ c.in-OtherGroup.is in
    rw which (record {
      like = c.in_ok-audit-in-OtherGroup.audit;
      like_is = rw (sym (ap (λ (value : AgentValue). value.asked) c.audit.view_is ∙ is.asked_is)) at is;
      same = rw (← c.audit.view_is) refl;
    })
