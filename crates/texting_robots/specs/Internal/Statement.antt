-- The directive in the content of a line, as a function that reads it from its start.
use Rattle.std.specs.Prelude.{◌≡◌, ◌⊎◌, ℕ, ◌==◌, ◌||◌, Bool, nat_lt, List, [], ◌∷◌, map, length, take, drop}
use Rattle.std.specs.Prelude.{Option, Some, None, if◌then◌else◌, option_and_then}
use Rattle.std.specs.{List.before_first, Char.to_ascii_lowercase, Char.is_whitespace, Str.bytes_eq}
use Rattle.bstr.specs.Trim.{trim_start_by, trim_end_by}
use Rattle.texting_robots.specs.{declared.parser.statement.Kind.Kind, Statement.field_names}
use Rattle.texting_robots.specs.declared.parser.statement.Kind.TheVariants.{UserAgent, Allow, Disallow}
use Rattle.texting_robots.specs.declared.parser.statement.Kind.TheVariants.{Sitemap, CrawlDelay}

abbrev pub space : ℕ
space = 32

abbrev pub tab : ℕ
tab = 9

abbrev pub colon : ℕ
colon = 58

abbrev pub hash : ℕ
hash = 35

abbrev pub IsOptionalComment : List ℕ → Type 0
IsOptionalComment bytes = (bytes ≡ []) ⊎ ((text : List ℕ) × (bytes ≡ hash ∷ text))

abbrev pub skip_blanks : List ℕ → List ℕ
skip_blanks [] = []
skip_blanks (byte ∷ text) = if byte == space || byte == tab then skip_blanks text else byte ∷ text

-- 'u' is 117, 'a' 97, 'd' 100, 's' 115 and 'c' 99
abbrev pub kind_with : ℕ → Option Kind
kind_with letter =
    if letter == 117 then Some UserAgent
    else (if letter == 97 then Some Allow
    else (if letter == 100 then Some Disallow
    else (if letter == 115 then Some Sitemap
    else (if letter == 99 then Some CrawlDelay else None))))

-- the kind whose field names begin with the first letter of the text, in any case
abbrev pub kind_by : List ℕ → Option Kind
kind_by [] = None
kind_by (byte ∷ text) = kind_with (to_ascii_lowercase byte)

-- the field name is given in lowercase; in the text, ASCII letters are in any case
abbrev pub begins : List ℕ → List ℕ → Bool
begins name text = bytes_eq (map to_ascii_lowercase (take (length name) text)) name

-- what follows the first of these field names that the text begins with
abbrev pub after_any : List (List ℕ) → List ℕ → Option (List ℕ)
after_any [] text = None
after_any (name ∷ field_names) text =
    if begins name text then Some (drop (length name) text) else after_any field_names text

abbrev pub after_blanks : List ℕ → List ℕ → Option (List ℕ)
after_blanks rest after = if nat_lt (length after) (length rest) then Some after else None

abbrev pub after_separator : List ℕ → List ℕ → Option (List ℕ)
after_separator rest [] = after_blanks rest []
after_separator rest (byte ∷ after) =
    if byte == colon then Some (skip_blanks after) else after_blanks rest (byte ∷ after)

-- what follows the leading separator, and spaces and tabs after it
abbrev pub tail_of : List ℕ → Option (List ℕ)
tail_of rest = after_separator rest (skip_blanks rest)

-- the raw value
abbrev pub region_of : List ℕ → List ℕ
region_of tail = before_first (λ byte. byte == hash) tail

abbrev pub trimmed : List ℕ → List ℕ
trimmed region = trim_end_by is_whitespace (trim_start_by is_whitespace region)

abbrev pub value_of : List ℕ → List ℕ
value_of tail = trimmed (region_of tail)

abbrev pub tail_as : Kind → List ℕ → Option (List ℕ)
tail_as kind text = option_and_then tail_of (after_any (field_names kind) text)

-- the kind and the value of the directive in this content, if it is one
unfoldable pub statement_of : List ℕ → Option (Kind × List ℕ)
statement_of body =
    let text = skip_blanks body in
    option_and_then (λ kind. option_and_then (λ tail. Some (kind, value_of tail)) (tail_as kind text))
    (kind_by text)
