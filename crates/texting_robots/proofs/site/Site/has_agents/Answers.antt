use Rattle.std.proofs.{Common.arith, lemmas.List.length-map}
use Rattle.texting_robots.proofs.SiteGroupLemmas.{has_names}
use Rattle.texting_robots.proofs.site.Site.has_agents.Goals as goal

pub returns : goal.returns
returns c = grind (arith, has_names, length-map)
