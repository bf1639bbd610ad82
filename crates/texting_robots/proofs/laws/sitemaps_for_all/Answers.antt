use Rattle.std.proofs.Common.{arith}
use Rattle.texting_robots.proofs.{ExecutableLemmas.sitemaps_are_computed}
use Rattle.texting_robots.proofs.{TheoremLemmas.sitemaps_change_nothing_else}
use Rattle.texting_robots.proofs.laws.sitemaps_for_all.Goals as goal

pub returns : goal.returns
returns c = record {
  others = sitemaps_change_nothing_else;
  sitemaps = grind (arith, sitemaps_are_computed);
}
