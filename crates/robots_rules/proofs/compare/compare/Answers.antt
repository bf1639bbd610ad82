use Rattle.std.proofs.Common.{rules}
use Rattle.texting_robots.specs.Callers.{unplaced}
use Rattle.robots_rules.specs.Internal.{AreAscending}
use Rattle.robots_rules.proofs.compare.compare.Goals as goal
use Rattle.robots_rules.proofs.VerdictLemmas.{compared}

pub returns : goal.returns
returns c =
    let old = c.in_ok-old_items.old_items.items in
    let new = c.in_ok-new_items.new_items.items in
    let pool = c.in_ok-pool.pool.items in
    let old_up : AreAscending c.as_slice.result.now = search rules in
    let new_up : AreAscending c.as_slice-2.result.now = search rules in
    compared (unplaced c.args.old.now) (unplaced c.args.new.now) old new pool
    (c.in_ok-old_items.ensures (rw c.as_slice.ensures.value at old_up))
    (c.in_ok-new_items.ensures (rw c.as_slice-2.ensures.value at new_up))
    (rw c.as_slice-3.ensures.value at c.in_ok-pool.ensures.old)
    (rw c.as_slice-4.ensures.value at c.in_ok-pool.ensures.new) c.args.front.now c.in_ok-answer.answer
    (rw c.as_slice-5.ensures.value at c.in_ok-answer.ensures)
