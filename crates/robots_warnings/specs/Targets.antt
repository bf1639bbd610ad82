-- The match target of a URL or a path, as crawlers ask for it.
use Rattle.std.specs.Prelude.{ℕ, Bool, not, ◌||◌, ◌&&◌, List, ◌++◌, None, Ok, Err, bytes_eq, codes}
use Rattle.std.specs.Prelude.{if◌then◌else◌, nat_eq}
use Rattle.std.specs.{List.starts_with, Str.byte}
use Rattle.url.specs.{Parts.Parts, Parser.parse_url}
use Rattle.texting_robots.specs.{Address.is_web, Prepared.prepared, Prepared.with_delimiter}
use Rattle.safe_output.specs.Bytes.{before_byte, somewhere}
use Rattle.rfc9309.specs.{Comparable.is_normal, Matching.all_stay, Matching.normal_uri}
use Rattle.rfc9309.specs.StandardTarget.{begins_as_url, written_target}
use Rattle.robots_warnings.specs.{Rules.begins_lone_percent, Urls.is_unparsable}

-- what a crawler sends to a site for a URL: not the fragment
abbrev pub requested_target : Parts → List ℕ
requested_target url = url.path ++ with_delimiter (codes "?") url.query

-- an http(s) URL is asked without its fragment; any other text has its match target, in which `#` is an
-- ordinary byte
abbrev pub asked_target : List ℕ → List ℕ
asked_target text =
    elim (parse_url None text) [
      | Ok url ↦ if is_web url.scheme then requested_target url else prepared text
      | Err e ↦ prepared text
    ]

-- a path segment `.` or `..`, which a slash or the end of the path follows
abbrev pub begins_dot_segment : List ℕ → Bool
begins_dot_segment text =
    (starts_with nat_eq text (codes "/./") || starts_with nat_eq text (codes "/../"))
    || (bytes_eq text (codes "/.") || bytes_eq text (codes "/.."))

abbrev pub has_dot_segment : List ℕ → Bool
has_dot_segment target = somewhere begins_dot_segment (before_byte (byte "?") target)

-- what is compared here is the normal form of what is written, as for RFC 9309, and in normal form; it has no
-- dot segments, which crawlers may resolve, and each `%` begins an escape
abbrev pub is_asked_as_written : List ℕ → Bool
is_asked_as_written text =
    let target = asked_target text in
    (bytes_eq target (normal_uri all_stay (written_target text)) && is_normal target)
    && not (has_dot_segment target || somewhere begins_lone_percent target)

-- the text is a path, or an http(s) URL that can be parsed, and isn't such a one
abbrev pub has_odd_target : List ℕ → Bool
has_odd_target text =
    (starts_with nat_eq text (codes "/") || (begins_as_url text && not (is_unparsable text)))
    && not (is_asked_as_written text)
