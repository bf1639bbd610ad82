use Rattle.std.proofs.Common.{◌≡◌, length, arith, sym}
use Rattle.std.proofs.lemmas.{Bool.eqb-true, Bool.iff_false, List.take_all, Slice.Eq.strip_prefix_is}
use Rattle.texting_robots.proofs.SegmentLemmas.{cut_closed, cut_first, cut_last, cut_more, cut_never}
use Rattle.texting_robots.proofs.SegmentLemmas.{cut_open, IsFromStar}
use Rattle.texting_robots.proofs.segments.push_segments.Goals as goal

pub loop-following-init : goal.loop-following-init
loop-following-init c = rw c.in_ok-first_len.ensures (cut_first _ _ _ _ _ c.cut_at_wildcard.ensures)

pub returns-then-closes : goal.returns-then-closes
returns-then-closes c =
    let left = c.loop-following.left.now in
    let following = c.in-Some.following in
    let is : IsFromStar left _ _ _ = record {
      following = following.now;
      star_first = grind (arith, strip_prefix_is);
      skips = cc;
      cut = c.cut_at_wildcard-in-Some.ensures;
    } in
    rw c.in_ok-span.ensures (cut_last c.loop-following.invariant is (c.closes.ensures.0 c.if-closes.true))

pub loop-following-preserved : goal.loop-following-preserved
loop-following-preserved c =
    let i = c.loop-following.invariant in
    let left = c.loop-following.left.now in
    let following = c.in-Some.following in
    let is : IsFromStar left _ _ _ = grind (arith, strip_prefix_is) in
    let (table, put, is_table) = c.in_ok-push_borders.ensures in
    let at : c.in_ok-table.table ≡ length c.loop-following.borders.items
    = omega (arith, c.in_ok-table.ensures) in
    let next = cut_more i is _ table at (iff_false c.closes.ensures c.if-closes.false) is_table in
    rw (c.in_ok-push.ensures.items, put, c.in_ok-span.ensures) next

pub returns-then-is_empty : goal.returns-then-is_empty
returns-then-is_empty c =
    let left = c.loop-following.left.now in
    let none : length left ≡ 0 = eqb-true (length left) 0 (cc) in
    cut_open c.loop-following.invariant (sym (take_all 0 left (omega arith)))

pub returns-then-closes-2 : goal.returns-then-closes-2
returns-then-closes-2 c =
    cut_closed c.loop-following.invariant (c.closes-else-is_empty.ensures.0 c.if-closes-2.true)

pub returns-else-closes-2 : goal.returns-else-closes-2
returns-else-closes-2 c =
    let left = c.loop-following.left.now in
    grind (arith, cut_never, iff_false, strip_prefix_is)
