use Rattle.std.proofs.Common.{◌≡◌, Some, drop}
use Rattle.robots_audit.specs.Answer.{is_warned}
use Rattle.robots_audit.proofs.program.has_level.Given as goal

abbrev pub invariant-loop-warning : goal.invariant-loop-warning
invariant-loop-warning l =
    is_warned (Some l.least) (drop l.warning-index l.warnings)
    ≡ is_warned (Some l.least) l.warnings
