use Rattle.std.proofs.Common.{◌+◌, ◌<◌, ℕ, Bool, Bor, List, [], ◌∷◌, append_assoc}
use Rattle.std.proofs.Common.{drop, if◌then◌else◌, length, map, refl, slice_index_or}
use Rattle.std.proofs.lemmas.List.{append-nil, drop_all, drop_more, map-append}
use Rattle.robots_examples.specs.Crawler.{AreAllowed}
use Rattle.texting_robots.specs.Callers.{IsVerdict, Rule, prepared, unplaced}
use Rattle.robots_examples.proofs.crawler.allowed_of.Goals.{then-branch+in_ok-push, else-branch}
use Rattle.robots_examples.proofs.crawler.allowed_of.Goals as goal

from_here : (rules : List Rule) (urls : List (Bor (List ℕ))) (at : ℕ) (url : Bor (List ℕ))
    (allowed : Bool) (rest : List (List ℕ)) → at < length urls
    → IsVerdict rules (prepared (slice_index_or urls at url).now) allowed
    × AreAllowed rules (map (λ url. url.now) (drop (at + 1) urls)) rest
    → AreAllowed rules (map (λ url. url.now) (drop at urls))
    (if allowed then (slice_index_or urls at url).now ∷ rest else rest)
from_here rules urls at url allowed rest below (is, are) =
    rw (drop_more urls at url below) (allowed, rest, is, are, refl)

pub loop-url-preserved : goal.loop-url-preserved
loop-url-preserved c = λ rest are.
    let rules = unplaced c.args.robot.now.rules in
    let allowed = c.in_ok-allowed.field-0 in
    let all = c.loop-url.invariant _
    (from_here rules c.args.urls.now c.loop-url.url-index _ allowed rest c.loop-url-test.true
    (c.in_ok-allowed.ensures.ok, are)) in
    elim c.if-branch.branch [
      | then-branch+in_ok-push w ↦
          rw (w.allowed-is, w.in_ok-push.ensures.items, map-append, append_assoc) (rw w.if-branch.true at all)
      | else-branch w ↦ rw w.allowed-is (rw w.if-branch.false at all)
    ]

pub returns-clause-urls : goal.returns-clause-urls
returns-clause-urls c =
    let none = drop_all c.loop-url.url-index c.args.urls.now c.loop-url-test.false in
    (rw (none, append-nil) at (c.loop-url.invariant [])) refl
