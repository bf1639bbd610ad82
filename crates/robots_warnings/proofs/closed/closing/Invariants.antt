use Rattle.std.proofs.Common.{All, take}
use Rattle.robots_warnings.specs.{Internal.Closed.IsClosed, Warnings.IsTold}
use Rattle.robots_warnings.proofs.closed.closing.Given as goal

abbrev pub invariant-loop-row : goal.invariant-loop-row
invariant-loop-row l = All (IsClosed l.rows) l.found.items

abbrev pub invariant-loop-row-2 : goal.invariant-loop-row-2
invariant-loop-row-2 l = record {
  so : All (IsClosed l.rows) l.found.items;
  told : All (λ row. IsTold l.found.items row.0) (take l.row-index l.rows);
}
