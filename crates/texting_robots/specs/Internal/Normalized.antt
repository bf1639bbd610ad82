-- Absolute URLs that `url` leaves unchanged, and how they are read from their start.
use Rattle.std.specs.Prelude.{◌≡◌, ◌⊎◌, ℕ, ◌==◌, Bool, not, true, false, List, [], ◌∷◌, ◌++◌, take, drop, All}
use Rattle.std.specs.Prelude.{codes, length, nat_lt, slice_index, if◌then◌else◌, ◌≢◌, ◌<◌, ◌^◌, ◌/◌, ◌&&◌}
use Rattle.std.specs.Prelude.{◌||◌, decimal, Option, IfSome, option_map}
use Rattle.std.specs.{Int.Bits.bit_and, List.prefix_len, Str.byte}
use Rattle.std.specs.Char.{is_ascii_lowercase, is_ascii_uppercase}
use Rattle.percent_encoding.specs.{declared.ascii_set.AsciiSet.AsciiSet, Percent.IsKept}
use Rattle.url.specs.{declared.scheme.SchemeType.TheVariants.SpecialNotFile, Input.rsplit_once}
use Rattle.url.specs.declared.sets.TheConstants.{FORBIDDEN_DOMAIN, FRAGMENT, SPECIAL_QUERY}
use Rattle.url.specs.Path.{IsSegmentList}
use Rattle.texting_robots.specs.{Prepared.with_delimiter}
unfoldable pub use Rattle.texting_robots.specs.Internal.ByteSet.{is_kept}

-- a host that `url` leaves unchanged; its last label begins with a letter, so that it isn't a number
pub record IsName (host : List ℕ) : Type 0 where
  pub allowed : All (IsKept FORBIDDEN_DOMAIN) host
  pub small : All (λ b. is_ascii_uppercase b ≡ false) host
  pub letter : is_ascii_lowercase (slice_index (rsplit_once (byte ".") host).1 0) ≡ true

-- `:` and a port that isn't the default one, `own`, or nothing
abbrev pub IsPort : ℕ → List ℕ → Type 0
IsPort own text =
    (port : Option ℕ) × (text ≡ with_delimiter (codes ":") (option_map decimal port))
    × IfSome port (λ n. (n < 2 ^ 16) × (n ≢ own))

pub record IsAuthority (own : ℕ) (text : List ℕ) : Type 0 where
  pub host : List ℕ
  pub port : List ℕ
  pub assembled : text ≡ host ++ port
  pub is_name : IsName host
  pub is_port : IsPort own port

-- the scheme, a host name and a port
abbrev pub IsSite : List ℕ → Type 0
IsSite text =
    ((authority : List ℕ) × (text ≡ codes "https://" ++ authority) × IsAuthority 443 authority)
    ⊎ ((authority : List ℕ) × (text ≡ codes "http://" ++ authority) × IsAuthority 80 authority)

-- segments, each after its slash, none of them a dot segment, in which no byte has to be escaped
abbrev pub IsPath : List ℕ → Type 0
IsPath path = IsSegmentList SpecialNotFile path

-- the delimiter and a part in which no byte has to be escaped, or nothing
abbrev pub IsDelimited : List ℕ → AsciiSet → List ℕ → Type 0
IsDelimited delimiter set text =
    (part : Option (List ℕ)) × (text ≡ with_delimiter delimiter part) × IfSome part (All (IsKept set))

-- a path, a query and a fragment that `url` leaves unchanged
pub record IsTarget (text : List ℕ) : Type 0 where
  pub path : List ℕ
  pub query : List ℕ
  pub fragment : List ℕ
  pub assembled : text ≡ path ++ (query ++ fragment)
  pub is_path : IsPath path
  pub is_query : IsDelimited (codes "?") SPECIAL_QUERY query
  pub is_fragment : IsDelimited (codes "#") FRAGMENT fragment

-- ---- Reading

abbrev pub kept_prefix : List ℕ → List ℕ → List ℕ
kept_prefix part text = take (prefix_len (is_kept part) text) text

abbrev pub after : List ℕ → List ℕ → List ℕ
after part text = drop (prefix_len (is_kept part) text) text

-- what follows the delimiter and the bytes after it in the set, or all of the text if it has no delimiter
abbrev pub after_delimited : ℕ → List ℕ → List ℕ → List ℕ
after_delimited delimiter part [] = []
after_delimited delimiter part (b ∷ text) = if b == delimiter then after part text else b ∷ text

-- no leading `+`, and no leading zero except in a single `0`
abbrev pub begins_plainly : List ℕ → Bool
begins_plainly digits =
    not (slice_index digits 0 == byte "+" || slice_index digits 0 == byte "0" && nat_lt 1 (length digits))

-- the digits of a port that isn't `own`, as `url` writes a port
abbrev pub IsOther : ℕ → List ℕ → Type 0
IsOther own digits = (port : ℕ) × (digits ≡ decimal port) × (port < 2 ^ 16) × (port ≢ own)

-- the text is a part of this kind, and then the rest
abbrev pub Leaves : (List ℕ → Type 0) → List ℕ → List ℕ → Type 0
Leaves IsPart text rest = (part : List ℕ) × (text ≡ part ++ rest) × IsPart part

abbrev pub begins_dotted : List ℕ → Bool
begins_dotted text = slice_index text 0 == byte "." || slice_index text 0 == byte "%"
