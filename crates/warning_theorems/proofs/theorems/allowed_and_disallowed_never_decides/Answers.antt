use Rattle.std.proofs.Common.{◌∷◌}
use Rattle.std.specs.Str.{byte}
use Rattle.warning_theorems.proofs.ConflictLemmas.{conflict_never_decides, same_wins, wins_on_paths}
use Rattle.warning_theorems.proofs.theorems.allowed_and_disallowed_never_decides.Goals as goal

pub returns-clause-same : goal.returns-clause-same
returns-clause-same c is_empty agent lines rules number other text is same =
    conflict_never_decides is_empty agent lines rules number other text is
    (same_wins is.opposed.pattern is.opposed.allowed text same)

pub returns-clause-path : goal.returns-clause-path
returns-clause-path c is_empty agent lines rules number other path is =
    conflict_never_decides is_empty agent lines rules number other (byte "/" ∷ path) is
    (wins_on_paths is.opposed.pattern is.opposed.allowed path is.opposed.same)
