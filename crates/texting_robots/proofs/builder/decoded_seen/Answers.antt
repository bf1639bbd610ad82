use Rattle.std.proofs.Common.{arith}
use Rattle.std.proofs.lemmas.{Str.is_utf8-from_IsUtf8}
use Rattle.texting_robots.proofs.NormalizedLemmas.{plain_ascii}
use Rattle.texting_robots.proofs.builder.decoded_seen.Goals as goal

pub ascii_str-requires : goal.ascii_str-requires
ascii_str-requires c = grind (arith, plain_ascii, c.requires)

pub returns-in-Some : goal.returns-in-Some
returns-in-Some c = grind (arith, is_utf8-from_IsUtf8, plain_ascii, c.requires)
