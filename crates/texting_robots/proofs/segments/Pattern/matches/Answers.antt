use Rattle.std.proofs.Common.{ap, arith, length, length-append, take}
use Rattle.std.proofs.lemmas.{List.length-take-le}
use Rattle.texting_robots.proofs.{FirstLemmas.within_looks, SegmentLemmas.first_in_front}
use Rattle.texting_robots.proofs.segments.Pattern.matches.Goals as goal

pub returns-in_default-clause-cost : goal.returns-in_default-clause-cost
returns-in_default-clause-cost g c = grind (arith, length-take-le, within_looks, c.self.inside)

pub loop-segment-init : goal.loop-segment-init
loop-segment-init g c =
    let (is_rest, split) = c.in-Some.ensures.some in
    let inside = c.self.inside in
    let first = inside.ends.first_len in
    let len = length-take-le first inside.bytes.now c.self.invariant.first in
    let rest = g.A.Haystack.left c.in-Some.rest (g.A.Haystack.seen c.args.haystack.now).text in
    record {
      is_rest = is_rest;
      left = c.self.invariant.rest;
      segments = c.self.invariant.left;
      decides = rw (← c.self.view_is) (first_in_front c.self.invariant _ _ split);
      cost = c.in-Some.ensures.cost;
      fits = omega (arith, ap length split, len, length-append (take first inside.bytes.now) rest);
      first = λ _. rw len at c.in-Some.ensures.looks;
    }

pub returns-in_default-find-clause-cost : goal.returns-in_default-find-clause-cost
returns-in_default-find-clause-cost g c = grind (arith, within_looks, c.loop-segment.invariant)

pub returns-clause-cost : goal.returns-clause-cost
returns-clause-cost g c =
    grind (arith, within_looks, c.loop-segment.invariant, c.ends_as.ensures.unsearched)
