use Rattle.warning_theorems.proofs.EmptyDisallowLemmas.{same_without}
use Rattle.warning_theorems.proofs.theorems.without_empty_disallows.Goals as goal

pub returns : goal.returns
returns c is_empty agent file rules right silent are =
    same_without agent file rules are is_empty (λ number. (right number).0)
    (λ placed has. silent placed.line)
