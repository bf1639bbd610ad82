use Rattle.rfc9309.proofs.NormalLemmas.{normal_uris}
use Rattle.rfc9309.proofs.verdict.normal_uris_are_those.Goals as goal

pub returns : goal.returns
returns c = normal_uris
