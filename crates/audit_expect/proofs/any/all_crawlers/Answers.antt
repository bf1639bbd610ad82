use Rattle.std.proofs.Common.{◌∙◌, refl, rules}
use Rattle.std.proofs.lemmas.List.{take_all}
use Rattle.audit_expect.proofs.ExpectationsLemmas.{names_known}
use Rattle.audit_expect.proofs.any.all_crawlers.Goals as goal

pub returns : goal.returns
returns c =
    let rows = c.crawlers-row-items in
    let whole = take_all c.loop-row.row-index rows.result.now (search rules) in
    c.loop-row.invariant
    ∙ rw (whole, names_known rows.result.now, rows.ensures, c.requires.site_is) refl
