-- Worked examples: what the specification means for small inputs. `src/laws.rt` proves them as theorems.
use Rattle.std.specs.Prelude.{◌≡◌, ◌-◌, ◌^◌, ℕ, Bool, true, false, List, [], ◌∷◌, ◌++◌, Option, Some, None}
use Rattle.std.specs.Prelude.{Ok, Err, codes, replicate, take}
use Rattle.url.specs.declared.error.ParseError.TheVariants.{EmptyHost, RelativeUrlWithoutBase}
use Rattle.url.specs.declared.error.ParseError.TheVariants.{SetHostOnCannotBeABaseUrl}
use Rattle.texting_robots.specs.{Address.robots_address, Decision.IsDecidingLine, Delay.IsDelay}
use Rattle.texting_robots.specs.{Escape.escaped, Group.IsCaptured, Order.IsBefore, Prepared.prepared}
use Rattle.texting_robots.specs.{Robot.IsRobotOf, Robot.RobotValue, Statement.IsStatement, Verdict.IsVerdict}
use Rattle.texting_robots.specs.Rules.{AreRulesFor, IsDelayFor, PlacedRule, unplaced}
use Rattle.texting_robots.specs.Line.{AreFileLinesOf, AreLinesOf, HasLines, LineValue, UserAgent, Allow, Raw}
use Rattle.texting_robots.specs.Line.{Disallow, Sitemap, CrawlDelay}
use Rattle.texting_robots.specs.Pattern.{IsOverlong, Matches, MatchesStars, collapsed}
use Rattle.texting_robots.specs.declared.parser.statement.Kind.TheVariants as kind

-- ---- Lines.

-- CR CR LF is one line terminator, and LF LF are two
abbrev pub line_ends : Type 0
line_ends =
    AreLinesOf (Raw (codes "a") ∷ Raw (codes "b") ∷ Raw [] ∷ Raw (codes "c") ∷ [])
    (codes "a\r\r\nb\n\nc")

-- LF CR are two, and each ends an empty line
abbrev pub lf_before_cr : Type 0
lf_before_cr = AreLinesOf (Raw [] ∷ Raw [] ∷ []) (codes "\n\r")

-- the last line may have a terminator or not; an empty text has no lines
abbrev pub last_line : Type 0
last_line =
    AreLinesOf (Raw (codes "a") ∷ []) (codes "a\n") × AreLinesOf (Raw (codes "a") ∷ []) (codes "a")
    × AreLinesOf [] []

-- in a file NUL ends a line; in the same bytes, not read as a file, it is part of a line
abbrev pub nul : Type 0
nul =
    AreFileLinesOf (Disallow (codes "/a") ∷ Allow (codes "/b") ∷ []) (codes "Disallow: /a\r\0Allow: /b")
    × AreLinesOf (Disallow (codes "/a") ∷ Raw (codes "\0Allow: /b") ∷ [])
    (codes "Disallow: /a\r\0Allow: /b")

-- only the first part of a file that exceeds the size limit is read; it may end within a line
abbrev pub cut_short : Type 0
cut_short =
    AreFileLinesOf (Disallow (codes "/ab") ∷ []) (take 13 (codes "Disallow: /abc"))
    × AreFileLinesOf (Allow (codes "/") ∷ []) (take 10 (codes "Disallow: /abc"))

-- a leading byte order mark is dropped, and so is a part of one
abbrev pub byte_order_mark : Type 0
byte_order_mark =
    AreLinesOf (Allow (codes "/") ∷ []) (0xEF ∷ 0xBB ∷ 0xBF ∷ codes "Allow: /")
    × AreLinesOf (Allow (codes "/") ∷ []) (0xBB ∷ codes "Allow: /")
    × AreLinesOf (Raw (0x11 ∷ 0xBF ∷ codes "Allow: /") ∷ [])
    (0xEF ∷ 0x11 ∷ 0xBF ∷ codes "Allow: /")

-- these misspelled field names are accepted
abbrev pub nonstandard_keys : Type 0
nonstandard_keys =
    AreLinesOf
    (Disallow (codes "/a") ∷ Disallow (codes "/b") ∷ Disallow (codes "/c") ∷ Disallow (codes "/d")
    ∷ Disallow (codes "/e") ∷ [])
    (codes "dissallow: /a\ndissalow: /b\ndisalow: /c\ndiasllow: /d\ndisallaw: /e")

-- a colon, spaces and tabs, or both separate field name and value, which excludes white space around it
abbrev pub separators : Type 0
separators =
    AreLinesOf
    (Disallow (codes "/a") ∷ Disallow (codes "/b") ∷ Disallow (codes "/c") ∷ Allow (codes "/d") ∷ [])
    (codes "disallow:/a\ndisallow    /b\nDISALLAW\t:\t/c\t# x\nAllow: /d" ++ 0xC2 ∷ 0xA0 ∷ [])

-- a field name without a separator isn't a directive
abbrev pub no_separator : Type 0
no_separator =
    AreLinesOf (Raw (codes "Disallow") ∷ Raw (codes "Disallow#x") ∷ Raw (codes "dissallow/b") ∷ [])
    (codes "Disallow\nDisallow#x\ndissallow/b")

-- what follows the first colon is the value, even another colon
abbrev pub two_colons : Type 0
two_colons = IsStatement kind.Disallow (codes "/a:b") (codes "Disallow:/a:b")

-- a comment begins with `#`
abbrev pub comments : Type 0
comments =
    AreLinesOf
    (UserAgent (codes "SmerBot") ∷ Allow (codes "/path/exception") ∷ CrawlDelay (Some 60000000) ∷ [])
    (codes "User-Agent: SmerBot\nAllow:    /path/exception   # ONLY THIS IS ALLOWED\n"
    ++ codes "Crawl-delay : 60 # Very slow delay")

-- an empty Disallow is an Allow of `/`, but an empty Allow is unchanged
abbrev pub empty_values : Type 0
empty_values =
    AreLinesOf (Allow (codes "/") ∷ Allow (codes "/") ∷ Allow [] ∷ [])
    (codes "Disallow:\nDisallow #/x\nAllow:")

-- a Crawl-delay whose value isn't a delay is `Raw`, with its comment
abbrev pub no_number : Type 0
no_number = AreLinesOf (Raw (codes "Crawl-delay: wait # x") ∷ []) (codes "Crawl-delay: wait # x")

-- a number of seconds, in microseconds
abbrev pub seconds : Type 0
seconds =
    IsDelay (codes "3.14") (Some 3140000) × IsDelay (codes ".5") (Some 500000)
    × IsDelay (codes "+2.5E1") (Some 25000000)

-- a fraction of a microsecond is dropped
abbrev pub rounded_down : Type 0
rounded_down =
    IsDelay (codes "1.0000009") (Some 1000000) × IsDelay (codes "0.0000019") (Some 1)
    × IsDelay (codes "1e-7") (Some 0)

-- a delay is at most the greatest 64-bit number
abbrev pub greatest : Type 0
greatest =
    IsDelay (codes "inf") (Some (2 ^ 64 - 1)) × IsDelay (codes "INFINITY") (Some (2 ^ 64 - 1))
    × IsDelay (codes "18446744073709.551616") (Some (2 ^ 64 - 1))

-- after a minus only zero is a delay
abbrev pub minus : Type 0
minus =
    IsDelay (codes "-0") (Some 0) × IsDelay (codes "-1") None × IsDelay (codes "-1e-99") None
    × IsDelay (codes "-inf") None

abbrev pub no_delay : Type 0
no_delay =
    IsDelay [] None × IsDelay (codes ".") None × IsDelay (codes "nan") None × IsDelay (codes "1e") None
    × IsDelay (codes " 5") None

-- ---- Groups.

abbrev pub allow_at : ℕ → List ℕ → PlacedRule
allow_at line pattern = record { rule = (pattern, true); line = line }

abbrev pub deny_at : ℕ → List ℕ → PlacedRule
deny_at line pattern = record { rule = (pattern, false); line = line }

-- the file has these rules for the crawler
abbrev pub GivesRules : List ℕ → List ℕ → List PlacedRule → Type 0
GivesRules agent file rules = HasLines file (λ lines. AreRulesFor agent lines rules)

-- the first example of RFC 9309
abbrev pub simple : List ℕ
simple =
    codes "User-Agent: *\nDisallow: *.gif$\nDisallow: /example/\nAllow: /publications/\n\n"
    ++ codes "User-Agent: foobot\nDisallow:/\nAllow:/example/page.html\nAllow:/example/allowed.gif\n\n"
    ++ codes "User-Agent: barbot\nUser-Agent: bazbot\nDisallow: /example/page.html\n\n"
    ++ codes "User-Agent: quxbot\n"

-- a crawler gets the rules of its group and no others, in whatever case its name is written
abbrev pub own_group : Type 0
own_group =
    GivesRules (codes "FooBot") simple
    (deny_at 7 (codes "/") ∷ allow_at 8 (codes "/example/page.html")
    ∷ allow_at 9 (codes "/example/allowed.gif") ∷ [])

-- a group may have two names
abbrev pub two_names : Type 0
two_names =
    GivesRules (codes "barbot") simple (deny_at 13 (codes "/example/page.html") ∷ [])
    × GivesRules (codes "bazbot") simple (deny_at 13 (codes "/example/page.html") ∷ [])

-- a crawler that no line names gets the rules of `*`
abbrev pub star_group : Type 0
star_group =
    GivesRules (codes "otherbot") simple
    (deny_at 2 (codes "*.gif$") ∷ deny_at 3 (codes "/example/")
    ∷ allow_at 4 (codes "/publications/") ∷ [])

-- a crawler that is named doesn't, even if its own group is empty
abbrev pub empty_group : Type 0
empty_group = GivesRules (codes "quxbot") simple []

-- by positions, counted from 0: a line is captured for the names at the start of its group
abbrev pub captured : Type 0
captured =
    HasLines simple (λ lines. IsCaptured (codes "bazbot") lines 12 × ¬ IsCaptured (codes "bazbot") lines 6
    × ¬ IsCaptured (codes "quxbot") lines 12)

-- three groups, two of which have the same name
abbrev pub groups : List ℕ
groups =
    codes "allow: /foo/bar/\nuser-agent: FooBot\ndisallow: /\nallow: /x/\n"
    ++ codes "user-agent: BarBot\ndisallow: /\nallow: /y/\n\n\nallow: /w/\n"
    ++ codes "user-agent: BazBot\n\nuser-agent: FooBot\nallow: /z/\ndisallow: /"

-- groups with one name are merged; an empty line doesn't end a group; a rule above all applies to no crawler
abbrev pub merged_groups : Type 0
merged_groups =
    GivesRules (codes "FooBot") groups
    (deny_at 3 (codes "/") ∷ allow_at 4 (codes "/x/") ∷ allow_at 14 (codes "/z/")
    ∷ deny_at 15 (codes "/") ∷ [])
    × GivesRules (codes "BarBot") groups
    (deny_at 6 (codes "/") ∷ allow_at 7 (codes "/y/") ∷ allow_at 10 (codes "/w/") ∷ [])
    × GivesRules (codes "BazBot") groups (allow_at 14 (codes "/z/") ∷ deny_at 15 (codes "/") ∷ [])

abbrev pub one_rule : List ℕ
one_rule = codes "Disallow: /a"

-- without any user-agent line a rule applies to every crawler
abbrev pub no_agents : Type 0
no_agents = GivesRules (codes "BobBot") one_rule (deny_at 1 (codes "/a") ∷ [])

abbrev pub three_values : List ℕ
three_values =
    codes "Disallow: /" ++ 0xFF ∷ codes "\nDisallow: /" ++ 0xC3 ∷ 0xA9 ∷ codes "\nDisallow: /a b"

-- a value that isn't UTF-8 isn't a rule; in others, spaces and non-ASCII bytes are escaped
abbrev pub values : Type 0
values =
    GivesRules (codes "BobBot") three_values
    (deny_at 2 (codes "/%C3%A9") ∷ deny_at 3 (codes "/a%20b") ∷ [])

-- the file has this delay for the crawler, in microseconds
abbrev pub GivesDelay : List ℕ → List ℕ → ℕ → Type 0
GivesDelay agent file delay = HasLines file (λ lines. IsDelayFor agent lines (Some delay))

abbrev pub rejected_delay : List ℕ
rejected_delay = codes "User-Agent: D\nCrawl-Delay: -1.25\nUser-Agent: E\nCrawl-Delay: 8"

-- an ignored line doesn't end the user-agent lines of a group, so this delay is that of both
abbrev pub raw_in_a_group : Type 0
raw_in_a_group = GivesDelay (codes "D") rejected_delay 8000000

abbrev pub two_delays : List ℕ
two_delays = codes "Crawl-Delay: 5\nCrawl-Delay: 6"

abbrev pub early_delays : List ℕ
early_delays = codes "Crawl-Delay: 1\nCrawl-Delay: 2\nUser-Agent: *\nDisallow: /x"

-- the first delay of a group is used; if it has none, the last one above the user-agent lines
abbrev pub which_delay : Type 0
which_delay =
    GivesDelay (codes "BobBot") two_delays 5000000 × GivesDelay (codes "BobBot") early_delays 2000000

-- ---- Patterns.

-- a pattern matches a text that begins with it
abbrev pub beginning : Type 0
beginning =
    Matches [] (codes "/x") × Matches (codes "/fish") (codes "/fish/salmon")
    × ¬ Matches (codes "/fish") (codes "/catfish") × ¬ Matches (codes "b*c") (codes "*abc")

-- a star matches any bytes, or none
abbrev pub stars : Type 0
stars =
    Matches (codes "/a*") (codes "/a") × Matches (codes "a*a") (codes "aba")
    × ¬ Matches (codes "a*a") (codes "a")

-- a dollar matches at the end of the text
abbrev pub ends : Type 0
ends =
    Matches (codes "/*ab*ba$") (codes "/abba") × ¬ Matches (codes "/*ab*ba$") (codes "/aba")
    × Matches (codes "$") [] × ¬ Matches (codes "$") (codes "/")

-- a dollar is the end of the text also if a star follows it
abbrev pub star_after : Type 0
star_after = Matches (codes "/a$*") (codes "/a") × ¬ Matches (codes "/a$*") (codes "/ab")

-- a dollar is the end also if another byte follows it, so that such a pattern matches nothing
abbrev pub dollar_inside : Type 0
dollar_inside = ¬ Matches (codes "/a$b") (codes "/a$b") × ¬ Matches (codes "/a$b") (codes "/a")

-- a dollar that is an ordinary byte matches itself
abbrev pub plain_dollar : Type 0
plain_dollar = MatchesStars (codes "/a$") (codes "/a$b") × ¬ MatchesStars (codes "/a$") (codes "/a")

-- one star of each run is kept
abbrev pub one_star : Type 0
one_star =
    (collapsed (codes "/x***y/") ≡ codes "/x*y/") × (collapsed (codes "**") ≡ codes "*")
    × (collapsed (codes "/a**$") ≡ codes "/a*$")

-- a slash, n times `a`, and `end`
abbrev pub long : ℕ → List ℕ → List ℕ
long n end = codes "/" ++ replicate n 97 ++ end

-- a pattern with a dollar may have 4,096 bytes, but not 4,097
abbrev pub overlong : Type 0
overlong = ¬ IsOverlong (long 4094 (codes "$")) × IsOverlong (long 4095 (codes "$"))

-- a run of stars counts as one, and without a dollar there is no limit
abbrev pub not_overlong : Type 0
not_overlong = ¬ IsOverlong (long 4093 (codes "**$")) × ¬ IsOverlong (long 4095 (codes "b"))

-- a longer pattern is first, with all of its stars counted; else the one with the smaller byte
abbrev pub order : Type 0
order =
    IsBefore (codes "/ab") (codes "/a") × IsBefore (codes "/a**") (codes "/a*")
    × IsBefore (codes "/a") (codes "/b")

-- ---- Verdicts, match targets and addresses.

-- the verdict of the rules on the text, and the deciding line
pub record Answers (rules : List PlacedRule) (text : List ℕ) (answer : Bool) (line : Option ℕ)
    : Type 0 where
  pub verdict : IsVerdict (unplaced rules) text answer
  pub deciding : IsDecidingLine rules text line

-- the longest matching rule decides, as in the second example of RFC 9309
abbrev pub longest : Type 0
longest =
    let rules =
    allow_at 2 (codes "/example/page/") ∷ deny_at 3 (codes "/example/page/disallowed.gif") ∷ [] in
    Answers rules (codes "/example/page/disallowed.gif") false (Some 3)
    × Answers rules (codes "/example/page/other.gif") true (Some 2)

-- if no rule matches, the text is allowed, and no line decides
abbrev pub no_match : Type 0
no_match =
    Answers (deny_at 2 (codes "/foo") ∷ []) (codes "/FOO") true None
    × Answers (deny_at 3 (codes "b*c") ∷ []) (codes "*abc") true None

-- of two rules with the same length an Allow decides, even after a Disallow
abbrev pub tie : Type 0
tie =
    Answers (deny_at 1 (codes "/a") ∷ allow_at 2 (codes "/a") ∷ []) (codes "/ab") true (Some 2)
    × Answers (deny_at 1 (codes "/*b") ∷ allow_at 2 (codes "/ab") ∷ []) (codes "/ab") true (Some 2)

-- each star of a run counts
abbrev pub stars_count : Type 0
stars_count =
    Answers (deny_at 1 (codes "/***b") ∷ allow_at 2 (codes "/aab") ∷ []) (codes "/aab") false (Some 1)

-- of several rules with the same length and kind, the first one decides
abbrev pub first_named : Type 0
first_named =
    Answers (deny_at 1 (codes "/*") ∷ deny_at 2 (codes "/a") ∷ []) (codes "/a") false (Some 1)
    × Answers (deny_at 1 (codes "/a") ∷ deny_at 2 (codes "/*") ∷ []) (codes "/b") false (Some 2)

-- `/robots.txt` is always allowed, and no line decides
abbrev pub robots_file : Type 0
robots_file =
    let rules = deny_at 1 (codes "/") ∷ [] in
    Answers rules (codes "/robots.txt") true None × Answers rules (codes "/robots.txt?x") false (Some 1)

-- an empty Allow matches every text, and every other rule is at least as long
abbrev pub empty_allow : Type 0
empty_allow = Answers (deny_at 1 (codes "/") ∷ allow_at 2 [] ∷ []) (codes "/x") false (Some 1)

-- the match target of a URL is its path, query and fragment
abbrev pub prepared_url : Type 0
prepared_url =
    (prepared (codes "https://example.com") ≡ codes "/")
    × (prepared (codes "http://www.example.com/a/b?c=d&e=f#fragment") ≡ codes "/a/b?c=d&e=f#fragment")

-- a string that isn't a URL is escaped, but existing escapes are unchanged; for the empty string it is `/`
abbrev pub prepared_path : Type 0
prepared_path =
    (prepared (codes "/" ++ 0xC3 ∷ 0xA1 ∷ []) ≡ codes "/%C3%A1")
    × (prepared (codes "/%aa") ≡ codes "/%aa")
    × (prepared [] ≡ codes "/")

abbrev pub escapes : Type 0
escapes = escaped (codes "/a b\"<>`") ≡ codes "/a%20b%22%3C%3E%60"

-- robots.txt is at the root of the host; the address has the port unless it is the default one
abbrev pub address : Type 0
address =
    (robots_address (codes "https://user@example.com:80/x")
    ≡ Ok (codes "https://example.com:80/robots.txt"))
    × (robots_address (codes "http://user@example.com:80/x") ≡ Ok (codes "http://example.com/robots.txt"))

abbrev pub no_address : Type 0
no_address =
    (robots_address (codes "ftp://linux-isos.org/") ≡ Err EmptyHost)
    × (robots_address (codes "mailto:ferris@rust.com") ≡ Err SetHostOnCannotBeABaseUrl)
    × (robots_address (codes "/rust/v1/index.html") ≡ Err RelativeUrlWithoutBase)

abbrev pub ferris_file : List ℕ
ferris_file =
    codes "User-Agent: FerrisCrawler\nAllow: /ocean\nDisallow: /rust\nDisallow: /forest*.py\n"
    ++ codes "Crawl-Delay: 10\nUser-Agent: *\nDisallow: /\nSitemap: https://www.example.com/site.xml"

abbrev pub ferris_lines : List LineValue
ferris_lines =
    UserAgent (codes "FerrisCrawler") ∷ Allow (codes "/ocean") ∷ Disallow (codes "/rust")
    ∷ Disallow (codes "/forest*.py") ∷ CrawlDelay (Some 10000000) ∷ UserAgent (codes "*")
    ∷ Disallow (codes "/") ∷ Sitemap (codes "https://www.example.com/site.xml") ∷ []

abbrev pub ferris_rules : List PlacedRule
ferris_rules =
    allow_at 2 (codes "/ocean") ∷ deny_at 3 (codes "/rust") ∷ deny_at 4 (codes "/forest*.py") ∷ []

abbrev pub ferris_robot : RobotValue
ferris_robot = record {
  delay = Some 10000000;
  sitemaps = codes "https://www.example.com/site.xml" ∷ [];
  rules = ferris_rules;
}

abbrev pub lines : Type 0
lines = AreFileLinesOf ferris_lines ferris_file

abbrev pub robot : Type 0
robot = IsRobotOf (codes "FerrisCrawler") ferris_lines ferris_robot

abbrev pub answers : Type 0
answers =
    Answers ferris_rules (codes "/ocean/reef.html") true (Some 2)
    × Answers ferris_rules (codes "/rust") false (Some 3)
    × Answers ferris_rules (codes "/forest/tree/snake.py") false (Some 4)
