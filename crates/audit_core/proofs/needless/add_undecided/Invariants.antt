use Rattle.std.proofs.Common.{[]}
use Rattle.audit_core.specs.Internal.{AddsNeedless}
use Rattle.audit_core.proofs.needless.add_undecided.Given as goal

abbrev pub invariant-loop-line : goal.invariant-loop-line
invariant-loop-line l = AddsNeedless [] l.fn.found.items l.found.items
