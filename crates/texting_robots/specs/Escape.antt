-- Percent-encoding of patterns, and of strings that aren't URLs.
use Rattle.std.specs.Prelude.{ℕ, ◌/◌, ◌%◌, Bool, true, ◌||◌, ◌==◌, nat_lt, List, [], ◌∷◌, if◌then◌else◌}
use Rattle.std.specs.{Fmt.digit_glyph, List.flat_map, Str.byte}

-- a byte that is escaped: a control character, a space, `"`, `<`, `>`, a backquote, or a non-ASCII byte
abbrev pub is_escaped : ℕ → Bool
is_escaped b = nat_lt b 0x21 || b == 0x22 || b == 0x3C || b == 0x3E || b == 0x60 || nat_lt 0x7E b

-- `%` and two uppercase hexadecimal digits, or the byte itself
abbrev pub escape_byte : ℕ → List ℕ
escape_byte b =
    if is_escaped b then byte "%" ∷ digit_glyph true (b / 16 % 16) ∷ digit_glyph true (b % 16) ∷ []
    else b ∷ []

abbrev pub escaped : List ℕ → List ℕ
escaped bytes = flat_map escape_byte bytes
