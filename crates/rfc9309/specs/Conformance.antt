-- Whether a file is in the extended grammar (`IsFile`), decided line by line.
use Rattle.std.specs.Prelude.{ℕ, ◌+◌, ◌==◌, ◌&&◌, ◌||◌, not, nat_eq, nat_le, Bool, true, false, List, [], ◌∷◌}
use Rattle.std.specs.Prelude.{Option, Some, None, if◌then◌else◌, length}
use Rattle.std.specs.{List.list_any, List.starts_with}
use Rattle.texting_robots.specs.Callers.{file_bodies, file_limit}
use Rattle.rfc9309.specs.LineTest.{has_form}
use Rattle.rfc9309.specs.LineForms.{Agent, Delay, Empty, Other, Rule, Sitemap}
use Rattle.rfc9309.specs.declared.conformance.Conformance.{Conformance}
use Rattle.rfc9309.specs.declared.conformance.Conformance.TheVariants.{InGrammar, OtherFile, OtherLine}

-- a line other than a user-agent line; `below`: a user-agent line is above it
unfoldable pub is_line_below : (below : Bool) → List ℕ → Bool
is_line_below below body =
    (((below && has_form Rule body) || has_form Empty body) || has_form Sitemap body)
    || has_form Delay body || has_form Other body

-- the number of the first of these lines that isn't in the grammar; the first one has this number
abbrev pub first_other : (below : Bool) → ℕ → List (List ℕ) → Option ℕ
first_other below number [] = None
first_other below number (body ∷ bodies) =
    if has_form Agent body then first_other true (number + 1) bodies
    else if is_line_below below body then first_other below (number + 1) bodies else Some number

abbrev pub mark : List ℕ
mark = 0xEF ∷ 0xBB ∷ 0xBF ∷ []

-- the text begins with a complete byte order mark, or with none of its bytes
abbrev pub has_mark_or_none : List ℕ → Bool
has_mark_or_none text =
    starts_with nat_eq text mark || not (list_any (λ b. starts_with nat_eq text (b ∷ [])) mark)

-- all of the file is read, it has no NUL, and its byte order mark is complete
abbrev pub is_read_whole : List ℕ → Bool
is_read_whole file =
    (nat_le (length file) file_limit && not (list_any (λ b. b == 0) file)) && has_mark_or_none file

-- by the first line that isn't in the grammar
abbrev pub by_lines : Option ℕ → Conformance
by_lines (Some line) = OtherLine line
by_lines None = InGrammar

-- what the file is by RFC 9309
abbrev pub conformance_of : List ℕ → Conformance
conformance_of file =
    if is_read_whole file then by_lines (first_other false 1 (file_bodies file)) else OtherFile

-- the file is in the grammar
abbrev pub has_syntax : Conformance → Bool
has_syntax InGrammar = true
has_syntax _ = false
