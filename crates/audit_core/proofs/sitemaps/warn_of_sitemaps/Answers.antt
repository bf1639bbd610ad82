use Rattle.audit_core.proofs.AddedLemmas.{none_added}
use Rattle.audit_core.proofs.sitemaps.warn_of_sitemaps.Goals as goal

pub returns-in_default-clause-ok : goal.returns-in_default-clause-ok
returns-in_default-clause-ok c = none_added c.args.found.now.items
