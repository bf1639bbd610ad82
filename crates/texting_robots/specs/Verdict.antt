-- The verdict of rules on a text.
use Rattle.std.specs.Prelude.{◌≢◌, ℕ, ◌<◌, Bool, true, false, List, length, codes, Contains}
use Rattle.texting_robots.specs.{Pattern.Matches, Rules.Rule}

abbrev pub robots_file : List ℕ
robots_file = codes "/robots.txt"

-- the text isn't `/robots.txt`, and some matching Disallow rule is longer than every matching Allow rule
abbrev pub IsDenied : List Rule → List ℕ → Type 0
IsDenied rules text =
    (text ≢ robots_file) × (p : List ℕ) × Contains rules (p, false) × Matches p text
    × ((q : List ℕ) → Contains rules (q, true) → Matches q text → length q < length p)

-- the verdict is false exactly if the text is denied
abbrev pub IsVerdict : List Rule → List ℕ → Bool → Type 0
IsVerdict rules text true = ¬ IsDenied rules text
IsVerdict rules text false = IsDenied rules text
