use Rattle.std.proofs.{Common.arith, lemmas.Str.Pattern.starts_char}
use Rattle.texting_robots.proofs.PreparedLemmas.{slash_prepared}
use Rattle.texting_robots.proofs.prepared.prepare.Goals as goal

pub returns-then-starts_with : goal.returns-then-starts_with
returns-then-starts_with c = grind (arith, slash_prepared, starts_char)
