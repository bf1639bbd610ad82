use Rattle.std.proofs.Common.{arith}
use Rattle.texting_robots.proofs.SiteOwnLemmas.{listed_more, none_if_nil}
use Rattle.texting_robots.proofs.site.Site.all_sitemaps.Goals as goal

pub loop-span-preserved : goal.loop-span-preserved
loop-span-preserved c = grind (arith, listed_more)

pub returns-in_err-push_sitemap-clause-without_memory : goal.returns-in_err-push_sitemap-clause-without_memory
returns-in_err-push_sitemap-clause-without_memory c =
    grind (arith, none_if_nil, c.in_err-push_sitemap.ensures.without_memory)
