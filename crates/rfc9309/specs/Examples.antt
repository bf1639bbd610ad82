-- Worked examples of matching and of verdicts. They are theorems, proved as contracts in `src/verdict.rt`.
use Rattle.std.specs.Prelude.{◌≡◌, ℕ, Bool, true, false, List, [], ◌∷◌, ◌++◌, codes}
use Rattle.rfc9309.specs.Matching.{IsMatch, IsRfcVerdict, Reading, all_stay, as_in_table}
use Rattle.rfc9309.specs.Matching.{normal_path, normal_uri, octets}
use Rattle.rfc9309.specs.Comparable.{AreComparable}
use Rattle.rfc9309.specs.Rfc9309 as rfc
use Rattle.texting_robots.specs.Callers.{IsVerdict, Matches, escaped}

-- ---- the tables of the standard, from memory

-- U+30C4 in UTF-8, for which the standard writes `U+E38384`
abbrev pub tsu : List ℕ
tsu = 0xE3 ∷ 0x83 ∷ 0x84 ∷ []

-- by the reading that is made for the table
abbrev pub HaveForm : (path uri form : List ℕ) → Type 0
HaveForm path uri form = (normal_path as_in_table path ≡ form) × (normal_uri as_in_table uri ≡ form)

-- section 2.2.2: a path of a rule, a URI that it matches, and the encoded path (which is the normal form but
-- for the last row: there the standard leaves the escapes in it)
abbrev pub encoding : Type 0
encoding =
    HaveForm (codes "/foo/bar?baz=quz") (codes "/foo/bar?baz=quz") (codes "/foo/bar?baz=quz")
    × HaveForm (codes "/foo/bar?baz=https://foo.bar") (codes "/foo/bar?baz=https%3A%2F%2Ffoo.bar")
    (codes "/foo/bar?baz=https%3A%2F%2Ffoo.bar")
    × HaveForm (codes "/foo/bar/" ++ tsu) (codes "/foo/bar/%E3%83%84") (codes "/foo/bar/%E3%83%84")
    × HaveForm (codes "/foo/bar/%E3%83%84") (codes "/foo/bar/%E3%83%84") (codes "/foo/bar/%E3%83%84")
    × HaveForm (codes "/foo/bar/%62%61%7A") (codes "/foo/bar/baz") (codes "/foo/bar/baz")

-- section 2.2.3: special characters that are meant literally; the host of the URIs is left out
abbrev pub literals : Type 0
literals =
    HaveForm (codes "/path/file-with-a-%2A.html") (codes "/path/file-with-a-*.html")
    (codes "/path/file-with-a-%2A.html")
    × HaveForm (codes "/path/foo-%24") (codes "/path/foo-$") (codes "/path/foo-%24")

-- ---- where this library matches otherwise

-- the standard's rule matches the URI, and this library's doesn't
pub record OnlyByStandard (stays : Reading) (path uri : List ℕ) : Type 0 where
  pub standard : IsMatch stays path uri
  pub here : ¬ Matches (escaped path) uri

-- a needless escape, and a lowercase one, in the rule and in the URI; octets that URIs don't contain; a star
-- in the URI; a dollar inside, which is an octet like others for the standard, also before a star and before
-- the dollar at the end
abbrev pub differences : Type 0
differences =
    OnlyByStandard all_stay (codes "/%62") (codes "/b")
    × OnlyByStandard all_stay (codes "/%c3") (codes "/%C3")
    × OnlyByStandard all_stay (codes "/b") (codes "/%62")
    × OnlyByStandard all_stay (codes "/%C3") (codes "/%c3")
    × OnlyByStandard all_stay (codes "/{") (codes "/%7B")
    × OnlyByStandard all_stay (codes "/a|b") (codes "/a%7Cb")
    × OnlyByStandard all_stay (codes "/a%2Ab") (codes "/a*b")
    × OnlyByStandard all_stay (codes "/$a") (codes "/%24a")
    × OnlyByStandard all_stay (codes "/a$*") (codes "/a%24b")
    × OnlyByStandard all_stay (codes "/a$$") (codes "/a%24")

-- a reserved octet that is escaped in the URI only, by the reading that is made for the standard's table
abbrev pub reserved_in_uri : Type 0
reserved_in_uri =
    OnlyByStandard as_in_table (codes "/foo/bar?baz=https://foo.bar")
    (codes "/foo/bar?baz=https%3A%2F%2Ffoo.bar")

-- a reserved octet is matched by both if it is written alike in the rule and in the URI
abbrev pub reserved_alike : Type 0
reserved_alike =
    IsMatch as_in_table (codes "/foo/bar?baz=https://foo.bar") (codes "/foo/bar?baz=https://foo.bar")
    × Matches (escaped (codes "/foo/bar?baz=https://foo.bar")) (codes "/foo/bar?baz=https://foo.bar")

-- an empty Disallow, which this library reads as an Allow of `/`
abbrev pub empty_disallow : Type 0
empty_disallow =
    IsRfcVerdict all_stay (octets all_stay) (rfc.Disallow [] ∷ rfc.Disallow (codes "/") ∷ [])
    (codes "/x") false
    × IsVerdict ((codes "/", true) ∷ (codes "/", false) ∷ []) (codes "/x") true

-- ---- the second example of the standard

-- From memory: the standard asks for `/example/page/disallow.gif`, which its rule doesn't match; meant is
-- this.
abbrev pub page_rules : List rfc.Member
page_rules =
    rfc.Allow (codes "/example/page/") ∷ rfc.Disallow (codes "/example/page/disallowed.gif") ∷ []

abbrev pub longest : Type 0
longest =
    AreComparable as_in_table (octets as_in_table) page_rules (codes "/example/page/disallowed.gif")
    × IsRfcVerdict as_in_table (octets as_in_table) page_rules (codes "/example/page/disallowed.gif") false

-- ---- rules that meet all conditions

-- an empty Disallow, non-ASCII paths, stars, and a dollar at the end
abbrev pub mixed_rules : List rfc.Member
mixed_rules =
    rfc.Disallow [] ∷ rfc.Disallow (codes "/" ++ tsu ++ codes "*.gif$")
    ∷ rfc.Allow (codes "/" ++ tsu ++ codes "/b*.gif$") ∷ []

abbrev pub HasMixedVerdict : List ℕ → Bool → Type 0
HasMixedVerdict uri answer =
    AreComparable all_stay (octets all_stay) mixed_rules uri
    × IsRfcVerdict all_stay (octets all_stay) mixed_rules uri answer

abbrev pub mixed : Type 0
mixed =
    HasMixedVerdict (codes "/%E3%83%84a.gif") false × HasMixedVerdict (codes "/%E3%83%84/b.gif") true
