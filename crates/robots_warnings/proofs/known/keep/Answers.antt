use Rattle.std.proofs.Common.{rules}
use Rattle.robots_warnings.proofs.TellsLemmas.{tells_push}
use Rattle.robots_warnings.proofs.known.keep.Goals as goal

pub loop-candidate-preserved : goal.loop-candidate-preserved
loop-candidate-preserved c =
    tells_push c.copy.result c.loop-candidate.invariant c.in_ok-push.ensures.items
    (rw c.copy.ensures (c.is_so.ensures (search rules)))
