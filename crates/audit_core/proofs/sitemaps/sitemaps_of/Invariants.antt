use Rattle.std.proofs.Common.{◌≡◌, ◌++◌, drop, map}
use Rattle.texting_robots.specs.Callers.{label_by_value, sitemaps_in}
use Rattle.robots_warnings.specs.File.{lines_of}
use Rattle.audit_core.proofs.sitemaps.sitemaps_of.Given as goal

abbrev pub invariant-loop-labeled : goal.invariant-loop-labeled
invariant-loop-labeled l =
    map (λ sitemap. sitemap.now) l.sitemaps.items
    ++ sitemaps_in (lines_of (map label_by_value (drop l.labeled-index l.labels)))
    ≡ sitemaps_in (lines_of (map label_by_value l.labels))
