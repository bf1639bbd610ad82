-- Matching and verdicts by RFC 9309, sections 2.2.2 and 2.2.3. Nothing here refers to the specification of
-- this library, except the grammar's rules. What is said of the standard's text is from memory.
use Rattle.std.specs.Prelude.{◌≡◌, ◌≢◌, ℕ, ◌+◌, ◌*◌, ◌/◌, ◌%◌, ◌<◌, ◌==◌, nat_lt, Bool, true, false, not, []}
use Rattle.std.specs.Prelude.{◌&&◌, ◌||◌, List, ◌∷◌, ◌++◌, Contains, codes, length, if◌then◌else◌}
use Rattle.std.specs.Char.{digit_value, is_ascii_alphanumeric, is_ascii_hexdigit, to_ascii_uppercase}
use Rattle.std.specs.{Fmt.digit_glyph, List.list_any, Str.byte}
use Rattle.rfc9309.specs.Rfc9309 as rfc

-- ---- octets of a URI (RFC 3986, section 2)

abbrev pub is_one_of : List ℕ → ℕ → Bool
is_one_of octets b = list_any (λ c. c == b) octets

-- unreserved = ALPHA / DIGIT / "-" / "." / "_" / "~"
abbrev pub is_unreserved : ℕ → Bool
is_unreserved b = is_ascii_alphanumeric b || is_one_of (codes "-._~") b

-- reserved = gen-delims / sub-delims
abbrev pub is_reserved : ℕ → Bool
is_reserved b = is_one_of (codes ":/?#[]@!$&'()*+,;=") b

-- two uppercase hexadecimal digits, by RFC 3986 (sections 2.1 and 6.2.2.1): RFC 9309 doesn't state their case
abbrev pub percent_encoded : ℕ → List ℕ
percent_encoded b = byte "%" ∷ digit_glyph true (b / 16 % 16) ∷ digit_glyph true (b % 16) ∷ []

-- Which reserved octets stay as they are, given whether they come after the first `?`. RFC 9309 (section
-- 2.2.2) requires that octets "in the reserved range" are percent-encoded, but by its own table some stay,
-- and it doesn't state which. So a reading is a parameter here.
abbrev pub Reading : Type 0
Reading = Bool → ℕ → Bool

-- All reserved octets stay, since a delimiter and its escape differ by RFC 3986. This is against what RFC
-- 9309 requires, and against one row of its table: there `:` and its escape are the same.
abbrev pub all_stay : Reading
all_stay in_query b = true

-- As in the table of RFC 9309: after the first `?` a colon and a slash are percent-encoded. The query of a
-- rule begins at its first `?`, even if a star before it matches a `?`.
abbrev pub as_in_table : Reading
as_in_table in_query b = not (in_query && is_one_of (codes ":/") b)

-- A star and a dollar of a rule stay if they are special; those of a URI never do, so that a rule matches
-- them by `%2A` and `%24`, as in the table of section 2.2.3. Here a delimiter and its escape don't differ.
-- Neither does `#` stay in a URI, since it isn't part of a path or a query.
abbrev pub in_rule : Reading → Reading
in_rule stays in_query b = b == byte "*" || (not (b == byte "$") && stays in_query b)

abbrev pub in_uri : Reading → Reading
in_uri stays in_query b = not (is_one_of (codes "*$#") b) && stays in_query b

-- an octet that is left as it is: an unreserved one, a reserved one that stays, or `%`
abbrev pub is_kept : Reading → Bool → ℕ → Bool
is_kept stays in_query b =
    nat_lt b 128 && (is_unreserved b || (b == byte "%" || (is_reserved b && stays in_query b)))

-- An octet that isn't part of an escape. By the letter of section 2.2.2 only non-ASCII octets and reserved
-- ones are percent-encoded. Here all others are, too, that no URI contains by RFC 3986: controls, the space,
-- and `" < > \ ^ { | }` and a backquote. About a `%` without two hexadecimal digits the standard says
-- nothing.
abbrev pub normal_octet : Reading → Bool → ℕ → List ℕ
normal_octet stays in_query b = if is_kept stays in_query b then b ∷ [] else percent_encoded b

abbrev pub is_escape : ℕ → ℕ → ℕ → Bool
is_escape b high low = b == byte "%" && (is_ascii_hexdigit high && is_ascii_hexdigit low)

-- An escape: unencoded if it is that of an unreserved octet. The standard requires this of URIs. That it
-- holds of rules follows only from the last row of its table, whose encoded path keeps the escapes.
abbrev pub normal_escape : ℕ → ℕ → List ℕ
normal_escape high low =
    let b = digit_value high * 16 + digit_value low in
    if is_unreserved b then b ∷ [] else byte "%" ∷ to_ascii_uppercase high ∷ to_ascii_uppercase low ∷ []

-- the octets with each one and each escape in normal form
unfoldable pub normal_from : Reading → Bool → List ℕ → List ℕ
normal_from stays in_query [] = []
normal_from stays in_query (b ∷ []) = normal_octet stays in_query b
normal_from stays in_query (b ∷ c ∷ []) =
    normal_octet stays in_query b ++ normal_octet stays (in_query || b == byte "?") c
normal_from stays in_query (b ∷ high ∷ low ∷ text) =
    if is_escape b high low then normal_escape high low ++ normal_from stays in_query text
    else normal_octet stays in_query b ++ normal_from stays (in_query || b == byte "?") (high ∷ low ∷ text)

-- without the `$` at the end, if there is one
unfoldable pub without_end : List ℕ → List ℕ
without_end [] = []
without_end (b ∷ []) = if b == byte "$" then [] else b ∷ []
without_end (b ∷ c ∷ path) = b ∷ without_end (c ∷ path)

-- the path ends with `$`
unfoldable pub is_ended : List ℕ → Bool
is_ended [] = false
is_ended (b ∷ []) = b == byte "$"
is_ended (b ∷ c ∷ path) = is_ended (c ∷ path)

abbrev pub has_dollar : List ℕ → Bool
has_dollar text = list_any (λ b. b == byte "$") text

-- the normal form of a rule's path, without the `$` at its end
abbrev pub normal_path : Reading → List ℕ → List ℕ
normal_path stays path = normal_from (in_rule stays) false (without_end path)

-- the normal form of a URI's path and query
abbrev pub normal_uri : Reading → List ℕ → List ℕ
normal_uri stays uri = normal_from (in_uri stays) false uri

-- the first string, or the empty one if there is none
abbrev pub first_of : List (List ℕ) → List ℕ
first_of [] = []
first_of (string ∷ strings) = string

abbrev pub later_of : List (List ℕ) → List (List ℕ)
later_of [] = []
later_of (string ∷ strings) = strings

-- The path with the first of these strings in place of its first star, the second in place of the second, and
-- so on, and nothing in place of further stars. A star "designates 0 or more instances of any character":
-- here of any octets of the normal form, even a part of an escape, so `/*4` matches `/%24`.
unfoldable pub filled : List ℕ → List (List ℕ) → List ℕ
filled [] strings = []
filled (b ∷ path) strings =
    if b == byte "*" then first_of strings ++ filled path (later_of strings) else b ∷ filled path strings

-- the URI begins with the rule's path, with some strings in place of its stars; if the path ends with `$`,
-- nothing is left of the URI
pub record IsMatch (stays : Reading) (path uri : List ℕ) : Type 0 where
  pub strings : List (List ℕ)
  pub rest : List ℕ
  pub whole : normal_uri stays uri ≡ filled (normal_path stays path) strings ++ rest
  pub end : is_ended path ≡ true → rest ≡ []

-- How many octets a rule has. By the standard, the match with the most octets is used; it doesn't say which
-- are counted. Here they are those of the rule's path in normal form, stars and a final `$` included.
abbrev pub octets : Reading → List ℕ → ℕ
octets stays path = length (normal_path stays path) + (if is_ended path then 1 else 0)

-- Access is disallowed: a matching Disallow has more octets than every matching Allow.
-- - `other`: the URI isn't `/robots.txt`, without a query, which is implicitly allowed;
-- - `some`: an empty Disallow disallows nothing, as usual, though the standard doesn't say so;
-- - `most`: an Allow is used if it is equivalent to the Disallow, which here means that it has as many
--   octets.
pub record IsDisallowed (stays : Reading) (count : List ℕ → ℕ) (members : List rfc.Member) (uri : List ℕ)
    : Type 0 where
  pub other : normal_uri stays uri ≢ normal_uri stays (codes "/robots.txt")
  pub path : List ℕ
  pub listed : Contains members (rfc.Disallow path)
  pub some : path ≢ []
  pub is_match : IsMatch stays path uri
  pub most : (allowed : List ℕ) → Contains members (rfc.Allow allowed) → IsMatch stays allowed uri
      → count allowed < count path

-- the verdict is false exactly if access is disallowed
abbrev pub IsRfcVerdict : Reading → (List ℕ → ℕ) → List rfc.Member → List ℕ → Bool → Type 0
IsRfcVerdict stays count members uri true = IsDisallowed stays count members uri → ⊥
IsRfcVerdict stays count members uri false = IsDisallowed stays count members uri
