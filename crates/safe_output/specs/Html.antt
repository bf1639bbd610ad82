-- Names of HTML, how texts are escaped, and the bytes of each piece of a page.
use Rattle.std.specs.Prelude.{ℕ, ◌==◌, Bool, false, not, ◌&&◌, ◌||◌, List, [], ◌∷◌, ◌++◌, codes}
use Rattle.std.specs.Prelude.{flat_map, if◌then◌else◌}
use Rattle.std.specs.{Borrow.Bor, Int.is_in_range, List.list_all, List.list_any, Str.bytes_eq}
use Rattle.safe_output.specs.Sanitize.{is_printable_byte, sanitized}

abbrev pub is_letter : ℕ → Bool
is_letter byte = is_in_range 97 122 byte

abbrev pub is_name_byte : ℕ → Bool
is_name_byte byte = is_letter byte || is_in_range 48 57 byte || byte == 45

abbrev pub is_name : List ℕ → Bool
is_name [] = false
is_name (byte ∷ bytes) = is_letter byte && list_all is_name_byte bytes

abbrev pub is_among : List (List ℕ) → List ℕ → Bool
is_among names name = list_any (bytes_eq name) names

-- the void elements of the HTML standard
abbrev pub void_names : List (List ℕ)
void_names =
    codes "area" ∷ codes "base" ∷ codes "br" ∷ codes "col" ∷ codes "embed" ∷ codes "hr" ∷ codes "img"
    ∷ codes "input" ∷ codes "link" ∷ codes "meta" ∷ codes "source" ∷ codes "track" ∷ codes "wbr" ∷ []

-- other elements than `style` and `title` for which the HTML standard has rules of its own
abbrev pub other_names : List (List ℕ)
other_names =
    codes "script" ∷ codes "noscript" ∷ codes "textarea" ∷ codes "iframe" ∷ codes "noembed"
    ∷ codes "noframes" ∷ codes "xmp" ∷ codes "plaintext" ∷ codes "pre" ∷ codes "listing" ∷ codes "svg"
    ∷ codes "math" ∷ codes "template" ∷ codes "select" ∷ codes "frameset" ∷ codes "image" ∷ []

abbrev pub is_style : List ℕ → Bool
is_style name = bytes_eq name (codes "style")

abbrev pub is_title : List ℕ → Bool
is_title name = bytes_eq name (codes "title")

-- a character reference for `&`, `<`, `>`, `"` and `[`; any other byte is unchanged
abbrev pub escaped_byte : ℕ → List ℕ
escaped_byte byte =
    if byte == 38 then codes "&amp;"
    else if byte == 60 then codes "&lt;"
    else if byte == 62 then codes "&gt;"
    else if byte == 34 then codes "&quot;"
    else if byte == 91 then codes "&lsqb;"
    else byte ∷ []

abbrev pub escaped : List ℕ → List ℕ
escaped bytes = flat_map escaped_byte bytes

abbrev pub is_unchanged : ℕ → Bool
is_unchanged byte = not (byte == 38 || byte == 60 || byte == 62 || byte == 34 || byte == 91)

-- printable ASCII that is unchanged
abbrev pub is_plain : ℕ → Bool
is_plain byte = is_printable_byte false byte && is_unchanged byte

-- ---- Pieces of a page: `unfoldable`, as proofs compute their bytes only if they ask for them.
unfoldable pub attribute_bytes : List ℕ → List ℕ → List ℕ
attribute_bytes name value = codes " " ++ (name ++ (codes "=\"" ++ (escaped value ++ codes "\"")))

abbrev pub shown_attribute : Bor (List ℕ) × Bor (List ℕ) → List ℕ
shown_attribute a = attribute_bytes a.0.now (sanitized a.1.now)

-- the end is `>` or `/>`
unfoldable pub tag_bytes : List ℕ → List (Bor (List ℕ) × Bor (List ℕ)) → (end : List ℕ) → List ℕ
tag_bytes name attributes end = codes "<" ++ (name ++ (flat_map shown_attribute attributes ++ end))

unfoldable pub end_bytes : List ℕ → List ℕ
end_bytes name = codes "</" ++ (name ++ codes ">")

unfoldable pub title_bytes : List ℕ → List ℕ
title_bytes text = codes "<title>" ++ (escaped text ++ codes "</title>")

unfoldable pub style_bytes : List ℕ → List ℕ
style_bytes css = codes "<style>" ++ (css ++ codes "</style>")
