use Rattle.std.proofs.{Common.arith, lemmas.Bool.and_parts}
use Rattle.texting_robots.proofs.NormalizedLemmas.{decimal_read}
use Rattle.texting_robots.proofs.normalized.is_port.Goals as goal

pub returns-in-Ok-from_str_radix : goal.returns-in-Ok-from_str_radix
returns-in-Ok-from_str_radix c =
    grind (arith, and_parts, decimal_read, c.in-Ok.ensures.cases.0, c.in-Ok-from_str_radix.ensures.value)
