use Rattle.std.proofs.Common.{[]}
use Rattle.audit_core.proofs.AddedLemmas.{more_added, none_added}
use Rattle.audit_core.proofs.sitemaps.warn_of_each.Goals as goal

pub loop-labeled-init : goal.loop-labeled-init
loop-labeled-init c = none_added c.args.found.now.items

pub loop-labeled-preserved : goal.loop-labeled-preserved
loop-labeled-preserved c =
    more_added {one = []} {two = []} c.loop-labeled.invariant c.in_ok-warn_of_sitemap.ensures.ok
