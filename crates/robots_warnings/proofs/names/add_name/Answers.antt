use Rattle.robots_warnings.proofs.ClosedLemmas.{name_added}
use Rattle.robots_warnings.proofs.names.add_name.Goals as goal

pub returns : goal.returns
returns c =
    name_added _ _ c.in_ok-lowered.lowered _ _ c.in_ok-lowered.ensures.ok c.in_ok-insert.ensures.added
    c.in_ok-insert.ensures.updates
