-- Which URLs a crawler fetches.
use Rattle.std.specs.Prelude.{◌≡◌, ℕ, Bool, List, [], ◌∷◌, if◌then◌else◌}
use Rattle.texting_robots.specs.Callers.{IsVerdict, Rule, prepared}

-- `kept` are the URLs that the rules allow, in order, each as often as it is given
abbrev pub AreAllowed : List Rule → List (List ℕ) → List (List ℕ) → Type 0
AreAllowed rules [] kept = kept ≡ []
AreAllowed rules (url ∷ urls) kept =
    (allowed : Bool) × (rest : List (List ℕ)) × IsVerdict rules (prepared url) allowed
    × AreAllowed rules urls rest × (kept ≡ (if allowed then url ∷ rest else rest))
