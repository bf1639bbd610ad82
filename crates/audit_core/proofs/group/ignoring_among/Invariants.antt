use Rattle.std.proofs.Common.{◌≡◌, ◌++◌, drop, map}
use Rattle.texting_robots.specs.Callers.{file_lines}
use Rattle.robots_warnings.specs.{Internal.row_value}
use Rattle.audit_core.specs.Audit.{ignoring_among}
use Rattle.audit_core.proofs.group.ignoring_among.Given as goal

abbrev pub invariant-loop-row : goal.invariant-loop-row
invariant-loop-row l =
    map (λ name. name.now) l.names.items
    ++ ignoring_among (file_lines l.site) (map row_value (drop l.row-index l.rows))
    ≡ ignoring_among (file_lines l.site) (map row_value l.rows)
