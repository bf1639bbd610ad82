-- The expectations in the file of `--expect`, one per line.
use Rattle.std.specs.Prelude.{ℕ, nat_eq, ◌==◌, ◌-◌, Bool, true, false, not, ◌&&◌, List, [], ◌∷◌, ◌++◌}
use Rattle.std.specs.Prelude.{Option, Some, None, bytes_eq, codes, filter, flat_map, if◌then◌else◌, length}
use Rattle.std.specs.Prelude.{◌||◌, ◌≡◌, map, nat_lt, option_map, take}
use Rattle.std.specs.List.{ends_with, slice_split, starts_with}
use Rattle.std.specs.Str.{byte, str_eq_ignore_ascii_case}
use Rattle.safe_output.specs.Bytes.{after_byte, before_byte, has}
use Rattle.robots_warnings.specs.Facts.{mark, without_start}

-- the URL, or each path that the pattern matches, must be allowed to the crawler, or denied
pub record ExpectationValue : Type 0 where
  pub allowed : Bool
  pub agent : List ℕ
  pub url : List ℕ
  pub is_pattern : Bool

abbrev pub is_word : List ℕ → Bool
is_word part = not (length part == 0)

abbrev pub is_blank : ℕ → Bool
is_blank b = (b == byte " " || b == byte "\t") || b == byte "\r"

-- words are separated by spaces, tabs and CRs
abbrev pub words : List ℕ → List (List ℕ)
words line = filter is_word (slice_split is_blank line)

abbrev pub quote : ℕ
quote = byte "\""

-- the words of a line; if one precedes the first quotation mark, what is between this and the next one is a
-- word, too
abbrev pub words_with_name : List ℕ → List (List ℕ)
words_with_name line =
    let first = words (before_byte quote line) in
    let rest = after_byte quote line in
    if length first == 1 then first ++ before_byte quote rest ∷ words (after_byte quote rest) else words line

-- something follows the first `$`; a rule with this pattern matches no path, or what one without it does
abbrev pub goes_on : List ℕ → Bool
goes_on word = nat_lt 0 (length (after_byte (byte "$") word))

-- whether it is a pattern, and it or the only path that it matches
abbrev pub asked : (expects_all : Bool) → List ℕ → Bool × List ℕ
asked expects_all word =
    if expects_all && (ends_with nat_eq word (codes "$") && not (has (byte "*") word || goes_on word))
    then (false, take (length word - 1) word) else (expects_all, word)

-- whether it is to be allowed, and whether all paths of a pattern are meant
abbrev pub demand_of : List ℕ → Option (Bool × Bool)
demand_of word =
    if bytes_eq word (codes "allow") then Some (true, false)
    else if bytes_eq word (codes "deny") then Some (false, false)
    else if bytes_eq word (codes "allow-all") then Some (true, true)
    else if bytes_eq word (codes "deny-all") then Some (false, true) else None

-- the word for every crawler
abbrev pub is_any : List ℕ → Bool
is_any name = str_eq_ignore_ascii_case name (codes "any")

abbrev pub expected : (agent url : List ℕ) → Bool × Bool → ExpectationValue
expected agent url (allowed, expects_all) =
    let (is_pattern, text) = asked expects_all url in
    record { allowed = allowed; agent = agent; url = text; is_pattern = is_pattern }

-- the expectation of a line with three words, the first of which is one of four
abbrev pub demanded : List (List ℕ) → Option ExpectationValue
demanded (word ∷ agent ∷ url ∷ []) = option_map (expected agent url) (demand_of word)
demanded words = None

-- a line without words is blank, and one whose first word starts with `#` is a comment; any other is
-- malformed without an expectation
abbrev pub words_expect : List (List ℕ) → List (Option ExpectationValue)
words_expect [] = []
words_expect (word ∷ others) =
    if starts_with nat_eq word (codes "#") then [] else demanded (word ∷ others) ∷ []

abbrev pub line_expects : List ℕ → List (Option ExpectationValue)
line_expects line = words_expect (words_with_name line)

-- the lines of a text expect this, if none is malformed
abbrev pub lines_expect : List ℕ → List (Option ExpectationValue)
lines_expect text = flat_map line_expects (slice_split (λ b. b == byte "\n") text)

-- these are the expectations in the text, which may begin with a byte order mark
abbrev pub AreExpectedIn : List ℕ → List ExpectationValue → Type 0
AreExpectedIn text expectations = map Some expectations ≡ lines_expect (without_start mark text)
