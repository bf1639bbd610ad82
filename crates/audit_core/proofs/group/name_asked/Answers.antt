use Rattle.audit_core.proofs.AuditLemmas.{labeled_lines}
use Rattle.audit_core.proofs.group.name_asked.Goals as goal

pub naming_line-line-requires : goal.naming_line-line-requires
naming_line-line-requires c = labeled_lines _ _ c.requires c.deref.ensures.value
