use Rattle.std.proofs.Common.{Bor, List, Option, arith, take, ℕ}
use Rattle.std.proofs.lemmas.List.{take_all, Elements.All-more, Elements.All-weaker}
use Rattle.robots_warnings.specs.{Message.WarningValue, Warnings.IsTold}
use Rattle.robots_warnings.proofs.closed.closing.Goals as goal

pub loop-row-2-preserved : goal.loop-row-2-preserved
loop-row-2-preserved c =
    let rows = c.args.rows.now in
    let at = c.loop-row-2.row-index in
    let adds = c.in_ok-warn_of_row-2.ensures in
    let Told = λ (found : List WarningValue) (row : Option ℕ × Bor (List ℕ)). IsTold found row.0 in
    record {
      so = adds.so;
      told = All-more (Told c.warn_of_row-in-loop-row-2.new.found.items) rows at _ c.loop-row-2-test.true
          (All-weaker (Told c.loop-row-2.found.items) (Told c.warn_of_row-in-loop-row-2.new.found.items)
          (λ row. adds.stays row.0) (take at rows) c.loop-row-2.invariant.told) adds.told;
    }

pub returns-clause-told : goal.returns-clause-told
returns-clause-told c =
    rw (take_all c.loop-row-2.row-index c.args.rows.now (omega arith)) at c.loop-row-2.invariant.told
