use Rattle.std.proofs.Common.{arith}
use Rattle.texting_robots.proofs.NormalizedLemmas.{authority_read}
use Rattle.texting_robots.proofs.normalized.after_authority.Goals as goal

pub returns-then-begins_with_letter : goal.returns-then-begins_with_letter
returns-then-begins_with_letter c = grind (arith, authority_read)
