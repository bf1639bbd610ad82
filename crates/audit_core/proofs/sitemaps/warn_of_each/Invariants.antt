use Rattle.std.proofs.Common.{[]}
use Rattle.audit_core.specs.Internal.{AddsNeedless}
use Rattle.audit_core.proofs.sitemaps.warn_of_each.Given as goal

abbrev pub invariant-loop-labeled : goal.invariant-loop-labeled
invariant-loop-labeled l = AddsNeedless [] l.fn.found.items l.found.items
