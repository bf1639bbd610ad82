-- Messages of SARIF 2.1.0 (OASIS Standard, Static Analysis Results Interchange Format), which show texts.
use Rattle.std.specs.Prelude.{◌≡◌, ℕ, Bool, List, [], ◌∷◌, ◌==◌, ◌&&◌, ◌||◌, Option, Some, None}
use Rattle.std.specs.Prelude.{encode_utf8_all, flat_map, if◌then◌else◌, option_map}
use Rattle.std.specs.Str.{byte}

-- a number in braces is a placeholder (section 3.11.5)
abbrev pub is_brace : ℕ → Bool
is_brace char = char == byte "{" || char == byte "}"

-- a text in brackets may be that of a link (section 3.11.6)
abbrev pub takes_backslash : ℕ → Bool
takes_backslash char = char == byte "[" || char == byte "]" || char == byte "\\"

-- a character as a part of a message: a brace twice, a bracket or a backslash after a backslash
abbrev pub literal_char : ℕ → List ℕ
literal_char char =
    if is_brace char then char ∷ char ∷ [] else if takes_backslash char then byte "\\" ∷ char ∷ []
    else char ∷ []

-- a message that shows the characters of a text
pub record IsMessage (message : List ℕ) : Type 0 where
  pub text : List ℕ
  pub escaped : message ≡ encode_utf8_all (flat_map literal_char text)

-- the two characters show the second one
abbrev pub is_escape : ℕ → ℕ → Bool
is_escape first char = (is_brace first && char == first) || (first == byte "\\" && takes_backslash char)

-- the characters that the rest of a message shows, if the first of an escape comes before it; `None` if it
-- has a brace or bracket that isn't escaped, as placeholders and links have
abbrev pub shown_after : Option ℕ → List ℕ → Option (List ℕ)
shown_after None [] = Some []
shown_after (Some first) [] = None
shown_after None (char ∷ message) =
    if is_brace char || takes_backslash char then shown_after (Some char) message
    else option_map (λ shown. char ∷ shown) (shown_after None message)
shown_after (Some first) (char ∷ message) =
    if is_escape first char then option_map (λ shown. char ∷ shown) (shown_after None message) else None

abbrev pub shown : List ℕ → Option (List ℕ)
shown message = shown_after None message
