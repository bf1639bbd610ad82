use Rattle.rfc9309.proofs.{DecidedLemmas.files_decided}
use Rattle.rfc9309.proofs.conformance.files_of_the_grammar_are_those.Goals as goal

pub returns : goal.returns
returns c = files_decided
