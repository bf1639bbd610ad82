use Rattle.std.proofs.Common.{◌≡◌, map, take}
use Rattle.std.specs.List.{filter_map}
use Rattle.texting_robots.specs.Internal.Site.{listed}
use Rattle.texting_robots.proofs.site.Site.sitemaps.Given as goal

abbrev pub invariant-loop-span : goal.invariant-loop-span
invariant-loop-span l =
    map (λ text. text.now) l.all.items ≡ filter_map (listed l.self) (take l.span-index l.span-items)
