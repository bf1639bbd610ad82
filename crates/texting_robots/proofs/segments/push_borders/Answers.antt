use Rattle.std.proofs.Common.{◌+◌, arith}
use Rattle.texting_robots.proofs.SearchLemmas.{IsFirstOpen, adds_entry, adds_more, longest_border, open_back}
use Rattle.texting_robots.proofs.SearchLemmas.{open_farther, open_more, open_next}
use Rattle.texting_robots.proofs.segments.push_borders.Goals.{then-segment-position}
use Rattle.texting_robots.proofs.segments.push_borders.Goals as goal

pub loop-position-smaller-then-matched-gt0 : goal.loop-position-smaller-then-matched-gt0
loop-position-smaller-then-matched-gt0 c =
    let i = c.loop-position.invariant in
    let matched = c.loop-position.matched in
    let entry = c.index.ensures in
    let longest = adds_entry i.adds matched (omega arith) (omega arith) _ (omega arith) _ entry in
    omega (arith, longest.proper)

pub loop-position-preserved-then-matched-gt0 : goal.loop-position-preserved-then-matched-gt0
loop-position-preserved-then-matched-gt0 c =
    let i = c.loop-position.invariant in
    let matched = c.loop-position.matched in
    let entry = c.index.ensures in
    let longest = adds_entry i.adds matched (omega arith) (omega arith) _ (omega arith) _ entry in
    record {
      table = i.table;
      within = i.within;
      first = open_back i.first (omega arith) (omega arith) c.if-segment-position.false longest;
      adds = i.adds;
      room = i.room;
    }

pub loop-position-preserved : goal.loop-position-preserved
loop-position-preserved c =
    let i = c.loop-position.invariant in
    let segment = c.args.segment.now in
    let position = c.loop-position.position in
    let is_first = IsFirstOpen segment segment 1 (position + 1) (position + 1) in
    let first : is_first c.if-segment-position.matched =
    grind (arith, open_more, open_next, then-segment-position) in
    record {
      table = i.table;
      within = omega arith;
      first = open_farther first (position + 1 + 1) (omega arith);
      adds = rw (c.push_reserved-in-loop-position.ensures.items)
          (adds_more i.adds (longest_border first));
      room = omega arith;
    }
