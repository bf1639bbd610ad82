-- How many links are denied.
use Rattle.std.specs.Prelude.{◌≡◌, ℕ, ◌+◌, Bool, List, [], ◌∷◌, if◌then◌else◌}
use Rattle.texting_robots.specs.Callers.{IsVerdict, Rule}

-- this many of the match targets are denied
abbrev pub AreDenied : List Rule → List (List ℕ) → ℕ → Type 0
AreDenied rules [] count = count ≡ 0
AreDenied rules (text ∷ texts) count =
    (allowed : Bool) × (rest : ℕ) × IsVerdict rules text allowed × AreDenied rules texts rest
    × (count ≡ (if allowed then rest else rest + 1))
