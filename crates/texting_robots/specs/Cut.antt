-- How a text is cut into line contents and line terminators.
use Rattle.std.specs.Prelude.{◌≡◌, ◌≢◌, ◌⊎◌, ℕ, List, [], ◌∷◌, ◌++◌, All, replicate}
use Rattle.std.specs.List.{flat_map}

abbrev pub cr : ℕ
cr = 13

abbrev pub lf : ℕ
lf = 10

-- the content of a line, and the terminator after it
pub record Pair : Type 0 where
  pub body : List ℕ
  pub ending : List ℕ

abbrev pub IsBodyByte : ℕ → Type 0
IsBodyByte byte = (byte ≢ cr) × (byte ≢ lf)

-- any number of CRs, and then at most one LF
abbrev pub IsLineEnd : List ℕ → Type 0
IsLineEnd bytes = (k : ℕ) × ((bytes ≡ replicate k cr) ⊎ (bytes ≡ replicate k cr ++ lf ∷ []))

abbrev pub joined : List Pair → List ℕ
joined pairs = flat_map (λ pair. pair.body ++ pair.ending) pairs

-- the pairs are a cut of the text:
-- - their bytes are the text, no content has CR or LF, and each ending is a line terminator;
-- - only the last pair may have an empty ending, and then its content isn't empty;
-- - after an ending without LF, the content of the next pair, if there is one, isn't empty
pub record IsCut (pairs : List Pair) (text : List ℕ) : Type 0 where
  pub whole : joined pairs ≡ text
  pub bodies : All (λ pair. All IsBodyByte pair.body) pairs
  pub endings : All (λ pair. IsLineEnd pair.ending) pairs
  pub empty_ending : (front back : List Pair) (pair : Pair) → pairs ≡ front ++ pair ∷ back
      → pair.ending ≡ [] → (back ≡ []) × (pair.body ≢ [])
  pub open_ending : (front back : List Pair) (pair next : Pair) → pairs ≡ front ++ pair ∷ next ∷ back
      → All (λ byte. byte ≢ lf) pair.ending → next.body ≢ []
