use Rattle.std.proofs.Common.{◌∙◌, sym, []}
use Rattle.audit_core.proofs.ReachLemmas.{fetches_everything}
use Rattle.audit_core.proofs.reach.reach_by.Goals as goal

pub returns-then-are_allows : goal.returns-then-are_allows
returns-then-are_allows c =
    fetches_everything c.args.rules.now [] (sym c.are_allows.ensures ∙ c.if-are_allows.true)
