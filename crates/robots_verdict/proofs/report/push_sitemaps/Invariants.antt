use Rattle.std.proofs.Common.{◌≡◌, ◌++◌, map, string_bytes, take}
use Rattle.safe_output.specs.Lines.{ended}
use Rattle.robots_verdict.specs.Report.{sitemap_line}
use Rattle.robots_verdict.proofs.report.push_sitemaps.Given as goal

abbrev pub invariant-loop-sitemap : goal.invariant-loop-sitemap
invariant-loop-sitemap l = string_bytes l.text ≡ string_bytes l.fn.text ++ ended
    (map sitemap_line (map string_bytes (take l.sitemap-index l.sitemaps)))
