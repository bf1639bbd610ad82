use Rattle.std.proofs.Common.{◌↔◌, ◌+◌, ◌≤◌, List, ℕ, drop, length}
use Rattle.texting_robots.specs.Internal.Segments.{PassesTo, AreLeft, IsUnsearched}
use Rattle.texting_robots.specs.Pattern.{Matches}
use Rattle.texting_robots.proofs.segments.Pattern.matches.Given as goal

abbrev pub invariant-loop-segment : goal.invariant-loop-segment
invariant-loop-segment g l =
    let inside = l.self-inside in
    let old = g.A.Haystack.seen l.fn.haystack in
    let now = g.A.Haystack.seen l.haystack in
    let rest = g.A.Haystack.left l.rest old.text in
    record {
      is_rest : g.A.Haystack.is_rest l.rest old.text;
      left : List ℕ;
      segments : AreLeft inside.bytes.now inside.ends.ending (drop l.segment-index inside.segments.now) left;
      decides : Matches l.self old.text ↔ Matches left rest;
      cost : PassesTo old now old.text rest;
      fits : inside.ends.first_len ≤ length old.text;
      first : IsUnsearched inside.segments.now inside.ends.ending
          → now.looks ≤ old.looks + inside.ends.first_len;
    }
