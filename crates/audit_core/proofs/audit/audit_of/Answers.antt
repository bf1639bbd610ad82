use Rattle.std.proofs.Common.{ap, sym, ◌∙◌}
use Rattle.audit_core.specs.{Audit.labels_requested, Request.requested_by}
use Rattle.robots_warnings.specs.File.{labels_for}
use Rattle.audit_core.proofs.audit.audit_of.Goals as goal

pub audit_read-requires-clause-labels : goal.audit_read-requires-clause-labels
audit_read-requires-clause-labels c =
    c.in_ok-readings.ensures.labels
    ∙ ap (λ agent. labels_for agent c.args.file.now) c.labeling_agent.ensures
    ∙ ap (labels_requested (requested_by c.args.request.now)) (sym c.in_ok-readings.ensures.readings.bytes)

pub returns-clause-ok : goal.returns-clause-ok
returns-clause-ok c =
    rw (c.labels_of.ensures, sym c.in_ok-readings.ensures.readings.bytes) c.in_ok-agents.ensures.ok
