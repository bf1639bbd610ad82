use Rattle.std.proofs.Common.{◌≡◌, ◌+◌, ◌<◌, ℕ, Bool, List, [], arith, drop, if◌then◌else◌, length, map, refl}
use Rattle.std.proofs.Common.{slice_index_or, slice_set, subst, sum_by, take}
use Rattle.std.proofs.lemmas.List.{drop-set-lt, drop_all, drop_more, take_more, take_more_set}
use Rattle.std.proofs.lemmas.{List.Sums.sum_by_push, Slice.Zip.all_zipped_more}
use Rattle.robots_examples.specs.LinkCheck.{AreDenied}
use Rattle.texting_robots.specs.Callers.{IsVerdict, Rule, ViewValue, unplaced}
use Rattle.robots_examples.proofs.link_check.count_denied.Goals.{then-not-allowed_view, else-not-allowed_view}
use Rattle.robots_examples.proofs.link_check.count_denied.Goals as goal

same_there : (xs ys : List ViewValue) (at : ℕ) (x : ViewValue) → at < length xs → at < length ys
    → drop at xs ≡ drop at ys
    → (slice_index_or xs at x ≡ slice_index_or ys at x) × (drop (at + 1) xs ≡ drop (at + 1) ys)
same_there xs ys at x within_xs within_ys same =
    let one = drop_more xs at x within_xs in
    let other = drop_more ys at x within_ys in
    (cc, cc)

from_here : (rules : List Rule) (links : List ViewValue) (at : ℕ) (link : ViewValue)
    (allowed : Bool) (rest : ℕ) → at < length links
    → IsVerdict rules (slice_index_or links at link).text allowed
    × AreDenied rules (map (λ link. link.text) (drop (at + 1) links)) rest
    → AreDenied rules (map (λ link. link.text) (drop at links)) (if allowed then rest else rest + 1)
from_here rules links at link allowed rest below (is, are) =
    rw (drop_more links at link below) (allowed, rest, is, are, refl)

looks_more : (links : List ViewValue) (at : ℕ) (link : ViewValue) → at < length links
    → sum_by (λ link. link.looks) (take (at + 1) (slice_set links at link))
    ≡ sum_by (λ link. link.looks) (take at links) + link.looks
looks_more links at link below =
    rw take_more_set (sum_by_push (λ link. link.looks) (take at links) link)

pub loop-link-preserved : goal.loop-link-preserved
loop-link-preserved c =
    let rules = unplaced c.args.robot.now.rules in
    let links = c.args.links.now in
    let at = c.loop-link.link-index in
    let so_far = c.loop-link.invariant in
    let link = c.link-item.result in
    let allowed = c.allowed_view.result in
    let after = c.allowed_view.new.view in
    let below : at < length c.loop-link.links = omega arith in
    let within : at < length links = omega arith in
    let same = same_there c.loop-link.links links at link below within so_far.left in
    let is = rw same.0 at c.allowed_view.ensures.verdict in
    let more : c.if-not-allowed_view.count ≡ c.loop-link.count + (if allowed then 0 else 1) =
    elim c.if-not-allowed_view.branch [
      | then-not-allowed_view w ↦ grind (arith, w.count-is, w.if-not-allowed_view)
      | else-not-allowed_view w ↦ grind (arith, w.count-is, w.if-not-allowed_view)
    ] in
    record {
      count = λ rest are.
          let all = so_far.count _ (from_here rules links at link allowed rest within (is, are)) in
          subst (AreDenied rules (map (λ link. link.text) links)) (grind (arith, more)) all;
      within = omega (arith, more, so_far.within);
      left = rw (drop-set-lt (at + 1) c.loop-link.links at after (omega arith)) same.1;
      views = rw (take_more links at link within, take_more_set)
          (all_zipped_more _ _ _ _ _ so_far.views (rw same.0 at c.allowed_view.ensures.looks));
      looks = omega (arith, looks_more c.loop-link.links at after below, so_far.looks, c.seen.ensures);
    }

pub returns-clause-count : goal.returns-clause-count
returns-clause-count c =
    let rules = unplaced c.args.robot.now.rules in
    let links = c.args.links.now in
    let none : drop c.loop-link.link-index links ≡ [] = drop_all _ links c.loop-link-test.false in
    let all = (rw none at (c.loop-link.invariant.count 0)) refl in
    subst (AreDenied rules (map (λ link. link.text) links)) (omega arith) all
