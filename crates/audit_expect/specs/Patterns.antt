-- Expectations about all paths that a pattern matches.
use Rattle.std.specs.Prelude.{◌≢◌, ◌≡◌, ℕ, Bool, List, ◌++◌, codes}
use Rattle.texting_robots.specs.Callers.{IsVerdict, Matches, PlacedRule, robots_file, unplaced}

-- a match target of a path other than `/robots.txt` that the pattern matches, as that of a rule does
pub record IsPathOf (pattern text : List ℕ) : Type 0 where
  pub rest : List ℕ
  pub begins : text ≡ codes "/" ++ rest
  pub other : text ≢ robots_file
  pub matches : Matches pattern text

-- each path has this verdict
abbrev pub AreDecidedAs : (pattern : List ℕ) → List PlacedRule → (allowed : Bool) → Type 0
AreDecidedAs pattern rules allowed =
    (text : List ℕ) → IsPathOf pattern text → IsVerdict (unplaced rules) text allowed
