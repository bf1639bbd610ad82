use Rattle.std.proofs.Common.{is_some}
use Rattle.c_calls.specs.File.{read_text, target_in}
use Rattle.c_calls.proofs.NumberLemmas.{as_many_rows, few_lines}
use Rattle.c_calls.proofs.matrix.matrix.Goals as goal

pub rows_of-requires : goal.rows_of-requires
rows_of-requires c =
    let (by_rfc9309, file, same) = c.requires in
    rw (c.read_site.ensures, same) (few_lines by_rfc9309 file)

pub returns-clause-count : goal.returns-clause-count
returns-clause-count c =
    let site = c.args.site.now in
    as_many_rows (read_text site) (target_in (is_some site.text)) _ c.args.agents.now c.args.urls.now _
    (rw (c.deref.ensures.value, c.read_site.ensures) at c.in_ok-numbers.ensures)
    (rw c.is_some.ensures at c.in_ok-targets.ensures)
