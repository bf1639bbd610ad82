use Rattle.std.proofs.Common.{[]}
use Rattle.robots_warnings.specs.{Internal.Row, Table.level_of, Table.name_of}
use Rattle.robots_warnings.{proofs.ClosedLemmas.part_in}
use Rattle.safe_output.specs.declared.level.Level.TheVariants as level
use Rattle.robots_warnings.proofs.table.Cause.row.Goals as goal

pub returns-clause-level : goal.returns-clause-level
unfolding level_of
returns-clause-level c = part_in (λ (row : Row). row.1) level.Warning c.row_at.ensures c.rows.ensures.levels

pub returns-clause-name : goal.returns-clause-name
unfolding name_of
returns-clause-name c = part_in (λ (row : Row). row.2.now) [] c.row_at.ensures c.rows.ensures.names
