use Rattle.std.proofs.{Common.arith, lemmas.Bool.and_parts, lemmas.Bool.not-false}
use Rattle.std.proofs.lemmas.Slice.Eq.{bytes_eq-Decides}
use Rattle.rfc9309.proofs.NormalLemmas.{normal_uris}
use Rattle.warning_theorems.proofs.theorems.url_not_normal.Goals as goal

pub returns : goal.returns
returns c text asked quiet = grind (arith, and_parts, bytes_eq-Decides, normal_uris, not-false)
