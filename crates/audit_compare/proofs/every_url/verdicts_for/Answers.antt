use Rattle.std.proofs.Common.{◌∙◌, sym}
use Rattle.audit_compare.proofs.CompareLemmas.{same_verdicts}
use Rattle.audit_compare.proofs.every_url.verdicts_for.Goals as goal

pub returns-then-are_none-clause-ok : goal.returns-then-are_none-clause-ok
returns-then-are_none-clause-ok c =
    same_verdicts c.args.older.now.rules.items c.args.newer.now.rules.items c.in_ok-rules.rules
    (rw (c.deref.ensures.value, c.deref-2.ensures.value) at c.in_ok-rules.ensures)
    (sym c.are_none.ensures ∙ c.if-are_none.true)
