use Rattle.robots_warnings.proofs.known.past_limit.Goals as goal

pub returns : goal.returns
returns c = rw c.deref.ensures.value at c.names_past_limit.ensures
