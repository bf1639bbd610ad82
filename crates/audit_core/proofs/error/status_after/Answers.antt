use Rattle.std.proofs.Common.{rules}
use Rattle.audit_core.proofs.error.status_after.Goals as goal

pub returns-in-Ok-2 : goal.returns-in-Ok-2
returns-in-Ok-2 c = search rules
