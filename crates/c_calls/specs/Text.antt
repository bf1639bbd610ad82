-- What is written to C's memory.
use Rattle.std.specs.Prelude.{◌≡◌, ℕ, ◌<◌, List, ◌++◌, drop, length}

abbrev pub IsPutIn : {X : Type 0} → List X → List X → List X → Type 0
IsPutIn old new items = new ≡ items ++ drop (length items) old

-- a text with the property P, and its length, are written
abbrev pub IsWritten : (List ℕ → Type 0) → List ℕ → List ℕ → ℕ → Type 0
IsWritten P old new written = (text : List ℕ) × P text × IsPutIn old new text × (written ≡ length text)

-- a text with the property P is too long, and its length is written
abbrev pub IsTooLong : (List ℕ → Type 0) → ℕ → ℕ → Type 0
IsTooLong P capacity wanted = (text : List ℕ) × P text × (capacity < length text) × (wanted ≡ length text)
