-- The path and the query of a URL, which RFC 9309 compares in normal form.
use Rattle.std.specs.Prelude.{ℕ, Bool, ◌&&◌, ◌||◌, List, ◌∷◌, codes, if◌then◌else◌, length, nat_eq}
use Rattle.std.specs.Prelude.{◌+◌, drop, slice_index, take}
use Rattle.std.specs.{Char.is_ascii_alphabetic, Char.is_ascii_alphanumeric}
use Rattle.std.specs.List.{position_or_len, prefix_len, starts_with}
use Rattle.std.specs.{Str.byte, Str.str_eq_ignore_ascii_case}
use Rattle.safe_output.specs.Bytes.{before_byte, has}
use Rattle.rfc9309.specs.Matching.{Reading, all_stay, in_rule, in_uri}
use Rattle.rfc9309.specs.declared.normal.Side.{Side}
use Rattle.rfc9309.specs.declared.normal.Side.TheVariants as side

abbrev pub reading_of : Side → Reading
reading_of side.Rule = in_rule all_stay
reading_of side.Uri = in_uri all_stay

abbrev pub begins_in_any_case : List ℕ → List ℕ → Bool
begins_in_any_case front text = str_eq_ignore_ascii_case (take (length front) text) front

abbrev pub begins_as_url : List ℕ → Bool
begins_as_url text =
    begins_in_any_case (codes "http://") text || begins_in_any_case (codes "https://") text

abbrev pub is_scheme_byte : ℕ → Bool
is_scheme_byte b = is_ascii_alphanumeric b || has b (codes "+-.")

abbrev pub ends_authority : ℕ → Bool
ends_authority b = has b (codes "/?#")

-- How long a URL's scheme, `://` and authority are; 0 for a text that doesn't start so. A scheme begins
-- with a letter.
abbrev pub site_len : List ℕ → ℕ
site_len text =
    let scheme = prefix_len is_scheme_byte text in
    let rest = drop scheme text in
    if is_ascii_alphabetic (slice_index text 0) && starts_with nat_eq rest (codes "://")
    then scheme + 3 + position_or_len ends_authority (drop 3 rest) else 0

-- what is written before a fragment, and after the authority of an absolute URL
abbrev pub written_part : List ℕ → List ℕ
written_part text = before_byte (byte "#") (drop (site_len text) text)

abbrev pub with_slash : List ℕ → List ℕ
with_slash target = if starts_with nat_eq target (codes "/") then target else byte "/" ∷ target

-- the path and the query of a path or an absolute URL, as they are written; an empty path is `/`
abbrev pub written_target : List ℕ → List ℕ
written_target text = with_slash (written_part text)
