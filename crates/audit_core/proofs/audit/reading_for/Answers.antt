use Rattle.audit_core.proofs.AuditLemmas.{robot_read}
use Rattle.audit_core.proofs.audit.reading_for.Goals as goal

pub returns-in-Ok-clause-ok : goal.returns-in-Ok-clause-ok
returns-in-Ok-clause-ok c = robot_read _ _ _ c.in-Ok.ensures.robot

pub returns-in-Err-Overlong-clause-ok : goal.returns-in-Err-Overlong-clause-ok
returns-in-Err-Overlong-clause-ok c =
    let why = c.in-Err-Overlong in (rw why.field-0-is at why.ensures.rejected).1
