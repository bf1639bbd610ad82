-- The cut as a function, which computes it from the end of the text, and the parts of its first pair.
use Rattle.std.specs.Prelude.{ℕ, suc, ◌==◌, List, [], ◌∷◌, if◌then◌else◌, map, Bool, true, false}
use Rattle.std.specs.{List.prefix_len}
use Rattle.texting_robots.specs.{Cut.Pair, Cut.cr, Cut.lf, Line.nul_as_lf}

abbrev pub before_body : ℕ → List Pair → List Pair
before_body byte [] = record { body = byte ∷ []; ending = [] } ∷ []
before_body byte (pair ∷ later) = record { body = byte ∷ pair.body; ending = pair.ending } ∷ later

-- a CR is added to the terminator that follows it, or is a terminator by itself
abbrev pub before_end : List Pair → List Pair
before_end [] = record { body = []; ending = cr ∷ [] } ∷ []
before_end (pair ∷ later) = elim pair.body [
  | [] ↦ record { body = []; ending = cr ∷ pair.ending } ∷ later
  | _ ∷ _ ↦ record { body = []; ending = cr ∷ [] } ∷ pair ∷ later
]

abbrev pub before_byte : ℕ → List Pair → List Pair
before_byte byte pairs =
    if byte == lf then record { body = []; ending = lf ∷ [] } ∷ pairs
    else (if byte == cr then before_end pairs else before_body byte pairs)

unfoldable pub cut : List ℕ → List Pair
cut [] = []
cut (byte ∷ text) = before_byte byte (cut text)

abbrev pub bodies_of : List ℕ → List (List ℕ)
bodies_of text = map (λ pair. pair.body) (cut text)

-- how many bytes precede the first CR or LF
abbrev pub body_len : List ℕ → ℕ
body_len [] = 0
body_len (byte ∷ text) = if byte == lf then 0 else (if byte == cr then 0 else suc (body_len text))

abbrev pub end_len : List ℕ → ℕ
end_len [] = 0
end_len (byte ∷ text) = if byte == lf then 1 else (if byte == cr then suc (end_len text) else 0)

-- a byte as it is cut: NUL as LF, or each byte unchanged
abbrev pub read_byte : Bool → ℕ → ℕ
read_byte true byte = nul_as_lf byte
read_byte false byte = byte

abbrev pub read_as : Bool → List ℕ → List ℕ
read_as nul_ends text = map (read_byte nul_ends) text

-- the byte completes a line terminator, alone or after CRs
abbrev pub is_feed : Bool → ℕ → Bool
is_feed nul_ends byte = read_byte nul_ends byte == lf

-- how many such bytes the text begins with; each is an empty line
abbrev pub empty_lines : Bool → List ℕ → ℕ
empty_lines nul_ends text = prefix_len (is_feed nul_ends) text
