use Rattle.std.proofs.{Common.refl, lemmas.List.Elements.All-push}
use Rattle.robots_warnings.{specs.Internal.Closed.IsClosed, proofs.ClosedLemmas.told_last}
use Rattle.robots_warnings.proofs.closed.warn_of_row.Goals as goal

pub returns-clause-so : goal.returns-clause-so
returns-clause-so c =
    let (k, below, at) = c.requires.row in
    rw c.in_ok-push.ensures.items
    (All-push (IsClosed c.args.rows.now) c.args.found.now.items _ c.requires.so
    (c.requires.cause, (k, c.args.row, below, at, (c.in-Some-default.is-0, refl))))

pub returns-clause-told : goal.returns-clause-told
returns-clause-told c =
    rw (c.in_ok-push.ensures.items, c.in-Some-default.is-0)
    (told_last c.args.found.now.items _ c.in-Some-default.number refl c.requires.cause)
