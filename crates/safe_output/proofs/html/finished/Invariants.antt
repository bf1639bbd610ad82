use Rattle.std.proofs.Common.{◌≡◌, vec_len}
use Rattle.safe_output.specs.Page.{all_closed, IsOpen, so_far}
use Rattle.safe_output.proofs.html.finished.Given as goal

abbrev pub invariant-loop-name : goal.invariant-loop-name
invariant-loop-name l = record {
  open_are : IsOpen l.rest.items l.content.items;
  tags : all_closed (so_far l.content.items) ≡ all_closed (so_far l.fn.bytes.items);
}

abbrev pub decreases-loop-name : goal.decreases-loop-name
decreases-loop-name l = vec_len l.rest
