use Rattle.std.proofs.Common.{arith}
use Rattle.safe_output.proofs.PageLemmas.{ended_open, page_finished, tags_kept}
use Rattle.safe_output.proofs.html.finished.Goals as goal

pub loop-name-preserved : goal.loop-name-preserved
loop-name-preserved c =
    let is = c.loop-name.invariant in record {
      open_are = ended_open _ _ _ _ _ is.open_are c.in-Some.ensures.items c.in_ok-push_end.ensures;
      tags =
          tags_kept _ _ _ _ _ is.open_are c.in-Some.ensures.items c.in_ok-push_end.ensures _ is.tags;
    }

pub returns : goal.returns
returns c =
    let is = c.loop-name.invariant in
    page_finished _ _ is.open_are (grind arith) _ _ (grind arith) is.tags
