use Rattle.std.proofs.Common.{◌≡◌, ◌++◌, flat_map, map, take}
use Rattle.robots_warnings.specs.Warnings.{url_warnings}
use Rattle.robots_warnings.proofs.warnings.warn_of_urls.Given as goal

abbrev pub invariant-loop-url : goal.invariant-loop-url
invariant-loop-url l =
    l.found.items
    ≡ l.fn.found.items
    ++ flat_map url_warnings (map (λ url. url.now) (take l.url-index l.urls))
