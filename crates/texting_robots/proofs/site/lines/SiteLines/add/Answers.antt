use Rattle.texting_robots.{specs.Internal.Site.listed, proofs.SiteLemmas.given_push}
use Rattle.texting_robots.proofs.site.lines.SiteLines.add.Goals as goal

pub returns-in_ok-push-in-Sitemap-clause-sitemaps :
    goal.returns-in_ok-push-in-Sitemap-clause-sitemaps
returns-in_ok-push-in-Sitemap-clause-sitemaps c =
    rw c.in_ok-push-in-Sitemap.ensures.items (given_push (listed c.args.text.now) _ _)
