use Rattle.std.proofs.Common.{◌≡◌, map, string_bytes, take}
use Rattle.std.specs.List.{filter_map}
use Rattle.texting_robots.specs.Internal.Site.{listed}
use Rattle.texting_robots.proofs.site.Site.all_sitemaps.Given as goal

abbrev pub invariant-loop-span : goal.invariant-loop-span
invariant-loop-span l =
    map string_bytes l.all.items ≡ filter_map (listed l.self) (take l.span-index l.span-items)
