use Rattle.std.proofs.Common.{[], refl}
use Rattle.robots_rules.proofs.SettledLemmas.{nothing_found}
use Rattle.audit_core.proofs.needless.needless_rules.Goals as goal

pub returns-else-is_requested-clause-found : goal.returns-else-is_requested-clause-found
returns-else-is_requested-clause-found c =
    rw c.nothing.ensures (nothing_found c.args.site.now [] refl)
