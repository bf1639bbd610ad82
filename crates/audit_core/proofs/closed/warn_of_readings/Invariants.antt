use Rattle.std.proofs.Common.{[]}
use Rattle.audit_core.specs.Internal.{AddsNeedless}
use Rattle.audit_core.proofs.closed.warn_of_readings.Given as goal

abbrev pub invariant-loop-audit : goal.invariant-loop-audit
invariant-loop-audit l = AddsNeedless [] l.fn.found.items l.found.items
