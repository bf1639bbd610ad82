use Rattle.safe_output.proofs.PageLemmas.{ended_open}
use Rattle.safe_output.proofs.html.Html.close.Goals as goal

pub invariant_of-self-in-Ok : goal.invariant_of-self-in-Ok
invariant_of-self-in-Ok c = ended_open _ _ _ _ _ c.self.invariant c.in-Some.ensures.items c.in-Ok.ensures
