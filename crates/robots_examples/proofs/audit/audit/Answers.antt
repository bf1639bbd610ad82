use Rattle.std.proofs.Common.{◌≡◌, append_assoc, length, rules, vec_len}
use Rattle.std.proofs.lemmas.List.{length_push, map-append}
use Rattle.robots_examples.proofs.audit.audit.Goals as goal

pub loop-line-preserved : goal.loop-line-preserved
loop-line-preserved c =
    let size : vec_len c.loop-line.rows ≡ length c.loop-line.rows.items = search rules in
    let pushed = c.in_ok-push.ensures.items in
    rw (pushed, map-append, length_push, append_assoc, c.len.ensures, size, c.kind_of.ensures)
    (rw c.in-Some.ensures.steps at c.loop-line.invariant)
