use Rattle.texting_robots.proofs.ExecutableLemmas.{sitemaps_are_computed}
use Rattle.texting_robots.proofs.laws.each_file_has_its_sitemaps.Goals as goal

pub returns : goal.returns
returns c = sitemaps_are_computed
