use Rattle.std.proofs.Common.{ℕ, List, ◌++◌, drop, map}
use Rattle.robots_examples.specs.Crawler.{AreAllowed}
use Rattle.texting_robots.specs.Callers.{unplaced}
use Rattle.robots_examples.proofs.crawler.allowed_of.Given as goal

abbrev pub invariant-loop-url : goal.invariant-loop-url
invariant-loop-url l =
    let rules = unplaced l.fn.robot.rules in
    (rest : List (List ℕ)) → AreAllowed rules (map (λ url. url.now) (drop l.url-index l.urls)) rest
    → AreAllowed rules (map (λ url. url.now) l.urls) (map (λ url. url.now) l.allowed.items ++ rest)
