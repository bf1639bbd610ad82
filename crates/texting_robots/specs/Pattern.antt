-- Patterns of rules, and what they match.
use Rattle.std.specs.Prelude.{◌≡◌, ℕ, ◌<◌, Bool, true, false, ◌==◌, ◌&&◌, ◌||◌, List, [], ◌∷◌, ◌++◌, Contains}
use Rattle.std.specs.Prelude.{MatchBool, length, slice_index, if◌then◌else◌}

abbrev pub star : ℕ
star = 42

abbrev pub dollar : ℕ
dollar = 36

abbrev pub is_wildcard : ℕ → Bool
is_wildcard b = (b == star) || (b == dollar)

-- how many bytes a collapsed pattern with `$` may have
abbrev pub longest_with_dollar : ℕ
longest_with_dollar = 4096

-- s is t without some prefix, which may be empty or all of t
abbrev pub IsSuffix : List ℕ → List ℕ → Type 0
IsSuffix s t = (front : List ℕ) × (t ≡ front ++ s)

-- The byte b of a pattern consumes a prefix of t and leaves s. A star consumes any prefix. A dollar, if
-- `anchors` is true, consumes nothing and needs t to be empty. Any other byte consumes itself.
abbrev pub Consumes : Bool → ℕ → List ℕ → List ℕ → Type 0
Consumes anchors b t s =
    MatchBool (b == star) (IsSuffix s t)
    (MatchBool (anchors && (b == dollar)) ((t ≡ []) × (s ≡ []))
    (t ≡ b ∷ s))

-- the pattern matches a prefix of the text, or all of it: its bytes consume the text one after the other
unfoldable pub MatchesWith : Bool → List ℕ → List ℕ → Type 0
MatchesWith anchors [] t = Unit {0}
MatchesWith anchors (b ∷ q) t = (s : List ℕ) × Consumes anchors b t s × MatchesWith anchors q s

-- what the pattern of a rule matches
abbrev pub Matches : List ℕ → List ℕ → Type 0
Matches pattern text = MatchesWith true pattern text

-- what a pattern matches with a dollar as an ordinary byte
abbrev pub MatchesStars : List ℕ → List ℕ → Type 0
MatchesStars pattern text = MatchesWith false pattern text

-- one star in place of each run of stars: no star precedes another one (`slice_index` is 0 past the end)
unfoldable pub collapsed : List ℕ → List ℕ
collapsed [] = []
collapsed (b ∷ q) = if (b == star) && (slice_index q 0 == star) then collapsed q else b ∷ collapsed q

-- the pattern contains a dollar, and is too long after it is collapsed
abbrev pub IsOverlong : List ℕ → Type 0
IsOverlong pattern = Contains pattern dollar × (longest_with_dollar < length (collapsed pattern))
