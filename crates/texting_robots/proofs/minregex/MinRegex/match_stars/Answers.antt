use Rattle.std.proofs.Common.{None, Some, arith}
use Rattle.std.proofs.lemmas.{Bool.Decides.Decides-eqb, List.Prefix.front_rest, Slice.Eq.strip_prefix_is}
use Rattle.texting_robots.proofs.SegmentLemmas.{nil_matches}
use Rattle.texting_robots.proofs.SearchLemmas.{stars_here, stars_in_front, stars_nowhere}
use Rattle.texting_robots.proofs.minregex.MinRegex.match_stars.Goals as goal

pub returns-in_default : goal.returns-in_default
returns-in_default c =
    let none = strip_prefix_is Decides-eqb _ _ None c.in_default.ensures.cases in (
      λ e. cc,
      λ m. let (after, e, more) = (stars_in_front _ c.cut_at_star.ensures).0 m in absurd (none after e),
    )

pub loop-left-init : goal.loop-left-init
loop-left-init c =
    let text = c.args.text.now in
    let first = c.cut_at_star.result.0.now in
    let rest = c.in-Some.rest.now in
    let (to, from) = stars_in_front text c.cut_at_star.ensures in
    let split = strip_prefix_is Decides-eqb text first (Some c.in-Some.rest) c.in-Some.ensures.cases in
    grind (arith, front_rest, to, from)

pub loop-left-preserved : goal.loop-left-preserved
loop-left-preserved c = grind (arith, stars_here, c.loop-left.invariant, c.in-Some-left.is)

pub returns-in_default-after_first : goal.returns-in_default-after_first
returns-in_default-after_first c = grind (arith, stars_nowhere, c.loop-left.invariant.0)

pub returns : goal.returns
returns c = grind (arith, nil_matches, c.loop-left.invariant.1)
