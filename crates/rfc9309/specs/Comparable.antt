-- Conditions on rules and on a URI under which the verdict of this library is that of the standard.
use Rattle.std.specs.Prelude.{◌≡◌, ◌≢◌, ◌⊎◌, ℕ, ◌+◌, ◌*◌, ◌<◌, ◌==◌, ◌&&◌, ◌||◌, not, Bool, false, List}
use Rattle.std.specs.Prelude.{[], Contains, codes, slice_index}
use Rattle.std.specs.{Char.digit_value, Char.is_ascii_lowercase, List.list_all, Str.byte}
use Rattle.rfc9309.specs.Matching.{Reading, has_dollar, is_escape, is_one_of, is_unreserved}
use Rattle.rfc9309.specs.Matching.{normal_path, normal_uri, octets, without_end}
use Rattle.safe_output.specs.{Bytes.somewhere}
use Rattle.texting_robots.specs.{Escape.escaped, Trim.IsTrimOf}
use Rattle.rfc9309.specs.Rfc9309 as rfc

-- an escape with a lowercase digit, or of an unreserved octet, so not in normal form
abbrev pub begins_odd_escape : List ℕ → Bool
begins_odd_escape text =
    let high = slice_index text 1 in
    let low = slice_index text 2 in
    is_escape (slice_index text 0) high low
    && ((is_ascii_lowercase high || is_ascii_lowercase low)
    || is_unreserved (digit_value high * 16 + digit_value low))

-- some escape isn't in normal form
abbrev pub has_odd_escape : List ℕ → Bool
has_odd_escape text = somewhere begins_odd_escape text

-- unreserved, `%`, or reserved other than a star, a dollar and `#`
abbrev pub is_uri_octet : ℕ → Bool
is_uri_octet b = is_unreserved b || (is_one_of (codes ":/?[]@!&'()+,;=") b || b == byte "%")

-- the URI is in normal form, if reserved octets stay
abbrev pub is_normal : List ℕ → Bool
is_normal uri = list_all is_uri_octet uri && not (has_odd_escape uri)

-- What this library compares for a rule's path is what the standard compares, its normal form. A dollar is
-- only at the end.
pub record IsPlainPath (stays : Reading) (path : List ℕ) : Type 0 where
  pub normal : normal_path stays path ≡ escaped (without_end path)
  pub dollar : has_dollar (without_end path) ≡ false

-- some rule has the path
abbrev pub IsPathOf : List rfc.Member → List ℕ → Type 0
IsPathOf members path = Contains members (rfc.Allow path) ⊎ Contains members (rfc.Disallow path)

-- The rules and the URI are such that both verdicts agree, where `stays` says which reserved octets stay, and
-- `count` gives the octets of a rule, by which one of several matches is chosen.
-- - `normal`: the URI is in normal form;
-- - `robots`: so is `/robots.txt`;
-- - `trimmed`: no rule has white space to trim;
-- - `plain`: this library compares each rule in its normal form;
-- - `counted`: the octets of a rule are counted in its normal form, or this count is the same;
-- - `empty`: if there is an empty Disallow, which is an Allow of `/` here, each other Disallow has more than
--   one octet, so it isn't `/` or `*`.
pub record AreComparable (stays : Reading) (count : List ℕ → ℕ) (members : List rfc.Member) (uri : List ℕ)
    : Type 0 where
  pub normal : normal_uri stays uri ≡ uri
  pub robots : normal_uri stays (codes "/robots.txt") ≡ codes "/robots.txt"
  pub trimmed : (path : List ℕ) → IsPathOf members path → IsTrimOf path path
  pub plain : (path : List ℕ) → IsPathOf members path → IsPlainPath stays path
  pub counted : (path : List ℕ) → IsPathOf members path → count path ≡ octets stays path
  pub empty : Contains members (rfc.Disallow []) → (path : List ℕ) → Contains members (rfc.Disallow path)
      → path ≢ [] → 1 < octets stays path
