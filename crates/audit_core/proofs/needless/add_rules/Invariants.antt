use Rattle.std.proofs.Common.{take}
use Rattle.robots_rules.specs.Needless.{numbers_of}
use Rattle.audit_core.specs.Internal.{AddsNeedless}
use Rattle.audit_core.proofs.needless.add_rules.Given as goal

abbrev pub invariant-loop-rule : goal.invariant-loop-rule
invariant-loop-rule l = AddsNeedless (numbers_of (take l.rule-index l.rules)) l.fn.found.items l.found.items
