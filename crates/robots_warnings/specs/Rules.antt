-- Conditions on the value of an Allow or a Disallow line.
use Rattle.std.specs.Prelude.{[], ℕ, ◌==◌, Bool, false, not, ◌||◌, ◌&&◌, List, ◌∷◌, slice_index}
use Rattle.safe_output.specs.{Bytes.after_byte}
use Rattle.std.specs.{List.list_any, Char.is_ascii_hexdigit, Str.byte}

-- not empty, and without a slash or a star at its start
abbrev pub begins_oddly : List ℕ → Bool
begins_oddly [] = false
begins_oddly (b ∷ value) = not (b == byte "/" || b == byte "*")

-- a `%` that begins no escape
abbrev pub begins_lone_percent : List ℕ → Bool
begins_lone_percent text =
    slice_index text 0 == byte "%"
    && not (is_ascii_hexdigit (slice_index text 1) && is_ascii_hexdigit (slice_index text 2))

-- a byte other than a star or `$` occurs after the first `$`
abbrev pub has_dollar_inside : List ℕ → Bool
has_dollar_inside value =
    list_any (λ b. not (b == byte "*" || b == byte "$")) (after_byte (byte "$") value)
