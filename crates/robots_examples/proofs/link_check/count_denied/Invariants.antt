use Rattle.std.proofs.Common.{◌≡◌, ℕ, ◌+◌, ◌≤◌, drop, map, sum_by, take}
use Rattle.std.specs.List.{AllZip}
use Rattle.robots_examples.specs.LinkCheck.{AreDenied}
use Rattle.texting_robots.specs.Callers.{LooksForRules, seen_of, unplaced}
use Rattle.robots_examples.proofs.link_check.count_denied.Given as goal

-- `count`: if `rest` of the remaining links are denied, then `count + rest` of all links are denied
abbrev pub invariant-loop-link : goal.invariant-loop-link
invariant-loop-link l =
    let rules = l.fn.robot.rules in
    let at = l.link-index in record {
      count : (rest : ℕ) → AreDenied (unplaced rules) (map (λ link. link.text) (drop at l.fn.links)) rest
          → AreDenied (unplaced rules) (map (λ link. link.text) l.fn.links) (l.count + rest);
      within : l.count ≤ at;
      left : drop at l.links ≡ drop at l.fn.links;
      views : AllZip (LooksForRules rules) (take at l.fn.links) (take at l.links);
      looks : l.looks ≡ seen_of (sum_by (λ link. link.looks) (take at l.links));
    }
