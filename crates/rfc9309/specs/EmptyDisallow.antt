-- Empty Disallows, which this library reads as an Allow of `/`.
use Rattle.std.specs.Prelude.{ℕ, Bool, false, ◌||◌, ◌==◌, List, [], ◌∷◌}
use Rattle.std.specs.{Str.byte}
use Rattle.texting_robots.specs.Line.{Allow, LineValue}
use Rattle.safe_output.specs.{Bytes.trim_blanks_start}

abbrev pub begins_with_d : List ℕ → Bool
begins_with_d [] = false
begins_with_d (b ∷ text) = b == byte "d" || b == byte "D"

-- the line is read as an Allow, but its field name begins with a `d`
abbrev pub is_empty_disallow : LineValue → List ℕ → Bool
is_empty_disallow (Allow value) body = begins_with_d (trim_blanks_start body)
is_empty_disallow _ body = false
