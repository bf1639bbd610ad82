use Rattle.std.proofs.Common.{arith}
use Rattle.texting_robots.proofs.SiteNameLemmas.{first_here, from_bucket, head_is}
use Rattle.texting_robots.proofs.site.names.NameIndex.first.Goals as goal

pub find_from-requires : goal.find_from-requires
find_from-requires c = grind (arith, first_here, head_is)

pub returns : goal.returns
returns c = grind (arith, from_bucket, head_is)
