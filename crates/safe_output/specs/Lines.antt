-- Lines, each with its end.
use Rattle.std.specs.Prelude.{ℕ, List, [], ◌∷◌, ◌++◌, flat_map}

abbrev pub lf : ℕ
lf = 10

abbrev pub ended : List (List ℕ) → List ℕ
ended lines = flat_map (λ line. line ++ lf ∷ []) lines
