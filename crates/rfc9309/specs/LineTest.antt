-- The form of a line as a test of its content: a content that passes `has_form` has the form (`HasForm`); one
-- with the form passes, unless it contains a line terminator.
use Rattle.std.specs.Prelude.{ℕ, ◌==◌, ◌&&◌, ◌||◌, not, nat_le, nat_lt, Bool, true, false, List, [], ◌∷◌}
use Rattle.std.specs.Prelude.{bytes_eq, codes, map}
use Rattle.std.specs.{Char.to_ascii_lowercase, List.list_all, List.list_any, Str.is_utf8}
use Rattle.safe_output.specs.Bytes.{after_byte, before_byte, has, is_blank, trim_blanks}
use Rattle.rfc9309.specs.LineForms.{Form, Empty, Agent, Rule, Delay, Sitemap, Other}
use Rattle.rfc9309.specs.Rfc9309 as rfc

abbrev pub hash : ℕ
hash = 0x23

abbrev pub colon : ℕ
colon = 0x3A

-- a tab, or not a control character of ASCII, apart from DEL
abbrev pub is_comment_byte : ℕ → Bool
is_comment_byte b = nat_le 0x20 b || b == 0x09

-- a byte of a comment other than a space, a tab and `#`
abbrev pub is_value_byte : ℕ → Bool
is_value_byte b = nat_lt 0x20 b && not (b == hash)

-- `-`, `_` or an ASCII letter
abbrev pub is_identifier_byte : ℕ → Bool
is_identifier_byte b =
    (b == 0x2D || b == 0x5F) || ((nat_le 0x41 b && nat_le b 0x5A) || (nat_le 0x61 b && nat_le b 0x7A))

abbrev pub is_digit : ℕ → Bool
is_digit b = nat_le 0x30 b && nat_le b 0x39

-- what may come after the `#` of a comment
abbrev pub is_comment_text : List ℕ → Bool
is_comment_text text = is_utf8 text && list_all is_comment_byte text

-- UTF-8 without spaces, control characters other than DEL, and `#`
abbrev pub is_value_text : List ℕ → Bool
is_value_text text = is_utf8 text && list_all is_value_byte text

-- one or more bytes, each of which passes the test
abbrev pub are_some : (ℕ → Bool) → List ℕ → Bool
are_some test [] = false
are_some test (b ∷ text) = list_all test (b ∷ text)

-- the field name, before the first colon
abbrev pub name_in : List ℕ → List ℕ
name_in body = trim_blanks (before_byte colon body)

-- the value, between the colon and a comment
abbrev pub value_in : List ℕ → List ℕ
value_in body = trim_blanks (before_byte hash (after_byte colon body))

-- with ASCII letters in lower case
abbrev pub lower : List ℕ → List ℕ
lower text = map to_ascii_lowercase text

-- a colon after this field name, with ASCII letters in any case, and only what is allowed in a comment, if
-- there is one
abbrev pub is_keyed : List ℕ → List ℕ → Bool
is_keyed word body =
    (has colon body && bytes_eq (lower (name_in body)) word)
    && is_comment_text (after_byte hash (after_byte colon body))

-- an identifier, or `*`
abbrev pub is_product_token : List ℕ → Bool
is_product_token value = are_some is_identifier_byte value || bytes_eq value (codes "*")

-- empty, or a pattern that begins with a slash or a star
abbrev pub is_pattern : List ℕ → Bool
is_pattern [] = true
is_pattern (b ∷ text) = (b == 0x2F || b == 0x2A) && is_value_text text

-- digits, or digits around a point
unfoldable pub is_number : List ℕ → Bool
is_number value =
    are_some is_digit value
    || (has 0x2E value && (are_some is_digit (before_byte 0x2E value)
    && are_some is_digit (after_byte 0x2E value)))

-- an identifier that isn't a field name which this library recognizes
abbrev pub is_other_name : List ℕ → Bool
is_other_name name = are_some is_identifier_byte name && not (list_any (bytes_eq (lower name)) rfc.names_read)

-- the test of each form
abbrev pub has_form : Form → List ℕ → Bool
has_form Empty body = list_all is_blank (before_byte hash body) && is_comment_text (after_byte hash body)
has_form Agent body = is_keyed (codes "user-agent") body && is_product_token (value_in body)
has_form Rule body =
    (is_keyed (codes "allow") body || is_keyed (codes "disallow") body) && is_pattern (value_in body)
has_form Delay body = is_keyed (codes "crawl-delay") body && is_number (value_in body)
has_form Sitemap body = is_keyed (codes "sitemap") body && is_value_text (value_in body)
has_form Other body =
    (has colon body && is_other_name (name_in body)) && is_comment_text (after_byte colon body)
