use Rattle.std.proofs.Common.{◌≡◌, ◌+◌, ◌++◌, length, map}
use Rattle.robots_examples.specs.Audit.{row_value, rows_from}
use Rattle.texting_robots.specs.Callers.{file_lines}
use Rattle.robots_examples.proofs.audit.audit.Given as goal

abbrev pub invariant-loop-line : goal.invariant-loop-line
invariant-loop-line l =
    map row_value l.rows.items ++ rows_from (length l.rows.items + 1) l.line-iterator
    ≡ rows_from 1 (file_lines l.fn.file)
