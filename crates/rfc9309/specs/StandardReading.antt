-- How RFC 9309 reads a file, whatever is in it, and a text that this library reads in this way. The text has
-- one line for each line of the file. The path and query of a URL have to be put in normal form, once, before
-- they are matched with its rules. Here a file is what is used of it, such as its first 512,000 bytes.
--
-- Which lines a file has, and what each states, is taken from this library's specification, so that files
-- outside of the standard's grammar have a reading too. In a line of the grammar this should make one
-- difference, which no theorem states: at the end of a value all Unicode white space is left out, such as
-- U+0085, and not only spaces and tabs.
use Rattle.std.specs.Prelude.{◌≡◌, ℕ, Bool, true, false, List, [], ◌∷◌, ◌++◌, codes, map, if◌then◌else◌}
use Rattle.std.specs.Prelude.{◌-◌, length, nat_eq, take}
use Rattle.std.specs.{List.ends_with, List.flat_map}
use Rattle.texting_robots.specs.Callers.{IsDecidingLine, IsRobotWithoutSitemaps, RobotValue, Rule}
use Rattle.texting_robots.specs.{declared.decision.Decision.Decision}
use Rattle.texting_robots.specs.{Cut.lf, Executable.file_bodies, Internal.Line.line_of}
use Rattle.texting_robots.specs.Line.{Allow, Disallow, LineValue, UserAgent}
use Rattle.rfc9309.specs.Matching.{IsRfcVerdict, Reading, all_stay, is_ended, normal_path, normal_uri}
use Rattle.rfc9309.specs.{EmptyDisallow.is_empty_disallow, Matching.octets}
use Rattle.rfc9309.specs.Rfc9309 as rfc

-- ---- what a file states

-- What a line states, as this library reads it: field names may be misspelled, a colon may be missing, and a
-- comment and Unicode white space at its ends aren't part of a value. Any value is a product token or a path,
-- also one that the grammar doesn't have. An empty Disallow is an Allow of `/` here, so it is told by its
-- content. Nothing else is stated; in particular, a delay isn't a rule.
abbrev pub stated_in : LineValue → List ℕ → rfc.Entry
stated_in (UserAgent token) body = rfc.Agent token
stated_in (Allow path) body =
    if is_empty_disallow (Allow path) body then rfc.InGroup (rfc.Disallow [])
    else rfc.InGroup (rfc.Allow path)
stated_in (Disallow path) body = rfc.InGroup (rfc.Disallow path)
stated_in _ body = rfc.Nothing

abbrev pub entry_of : List ℕ → rfc.Entry
entry_of body = stated_in (line_of body) body

-- The entries of the file's lines. These are cut as by this library (`AreFileBodiesOf`): NUL ends a line, and
-- the bytes of a leading byte order mark are dropped.
abbrev pub entries_in : List ℕ → List rfc.Entry
entries_in file = map entry_of (file_bodies file)

-- The rules for a crawler. No delay is among the entries, so none ends a list of product tokens: "parsing of
-- other records MUST NOT interfere with the parsing of explicitly defined records" (section 2.2.4, from
-- memory). Rules above the first product token are in no group.
abbrev pub standard_members : List ℕ → List ℕ → List rfc.Member
standard_members agent file = rfc.rules_for agent (rfc.groups_of (entries_in file))

-- The verdict of RFC 9309 for a crawler on a path with its query. Reserved octets stay as they are, except
-- for a `*`, `$` or `#` of a URI and a `$` of a rule before its end, which count as their escapes. Of several
-- matches, the one with the most octets in normal form is used (stars and a final `$` count; an Allow wins a
-- tie).
abbrev pub IsStandardVerdict : (agent file uri : List ℕ) → Bool → Type 0
IsStandardVerdict agent file uri answer =
    IsRfcVerdict all_stay (octets all_stay) (standard_members agent file) uri answer

-- ---- the text

-- without the `$` at the end, if there is one
abbrev pub front_of : List ℕ → List ℕ
front_of path = if ends_with nat_eq path (codes "$") then take (length path - 1) path else path

-- the pattern with which this library compares what the standard compares: the path in normal form, and its
-- final `$`
abbrev pub pattern_of : Reading → List ℕ → List ℕ
pattern_of stays path = normal_path stays path ++ (if is_ended path then codes "$" else [])

-- An Allow or a Disallow without a value decides nothing: the Disallow isn't a rule, and the Allow has no
-- octets, so every Disallow has more. It gets a pattern that matches nothing, so that it still ends a list of
-- product tokens: nothing is both empty and begins with a slash.
abbrev pub written_pattern : List ℕ → List ℕ
written_pattern [] = codes "$/"
written_pattern (b ∷ path) = pattern_of all_stay (b ∷ path)

-- the rule of this library for a rule; a delay, which matches nothing, is none of a crawler's rules
abbrev pub written_rule : rfc.Member → Rule
written_rule (rfc.Allow path) = (written_pattern path, true)
written_rule (rfc.Disallow path) = (written_pattern path, false)
written_rule (rfc.Delay number) = (codes "$/", false)

abbrev pub line_for : rfc.Entry → List ℕ
line_for (rfc.Agent token) = codes "User-agent: " ++ token
line_for (rfc.InGroup (rfc.Allow path)) = codes "Allow: " ++ written_pattern path
line_for (rfc.InGroup (rfc.Disallow path)) = codes "Disallow: " ++ written_pattern path
line_for _ = []

-- Nothing is stated above the first product token: this library would apply it to all crawlers if no product
-- token followed.
abbrev pub from_first_token : List rfc.Entry → List rfc.Entry
from_first_token [] = []
from_first_token (rfc.Agent token ∷ entries) = rfc.Agent token ∷ entries
from_first_token (entry ∷ entries) = rfc.Nothing ∷ from_first_token entries

abbrev pub lines_for : List ℕ → List (List ℕ)
lines_for file = map line_for (from_first_token (entries_in file))

-- each line ends with LF, and there is no byte order mark
abbrev pub standard_text : List ℕ → List ℕ
standard_text file = flat_map (λ line. line ++ lf ∷ []) (lines_for file)

-- What a robot of the text of a file decides on a path and query in normal form: the verdict of the standard
-- for the file, and the number of the line that decides, which is that of the file's line.
pub record IsStandardDecision (robot : RobotValue) (target : List ℕ) (decision : Decision) : Type 0 where
  pub verdict : (agent file uri : List ℕ) → IsRobotWithoutSitemaps agent (standard_text file) robot
      → target ≡ normal_uri all_stay uri → IsStandardVerdict agent file uri decision.allowed
  pub line : IsDecidingLine robot.rules target decision.line

-- ---- a file that both readings read otherwise

-- the delay ends a list of product tokens here, but not for the standard
abbrev pub sample : List ℕ
sample =
    codes "# only these\nUser-agent: Googlebot\nUser-agent: Bingbot\nCrawl-delay: 5\n\n"
    ++ codes "User-agent: *\nDisallow: /\n"

abbrev pub sample_text : List ℕ
sample_text = codes "\nUser-agent: Googlebot\nUser-agent: Bingbot\n\n\nUser-agent: *\nDisallow: /\n"

-- what is written otherwise in the text: a byte order mark, a rule above the first product token, a delay,
-- misspelled names, an empty Disallow, escapes, a `$` inside, bytes that aren't ASCII; the last rule would be
-- `/A` if it were put in normal form twice
abbrev pub mixed : List ℕ
mixed =
    0xEF ∷ 0xBB ∷ 0xBF ∷ codes "Disallow: /\nUser-agent: Bot\nCrawl-delay: 1\n"
    ++ codes "Useragent: Other/1 # c\nDisallow:\n"
    ++ codes "Disalow: /%62{$a" ++ 0xFF ∷ codes "\r\nAllow: /*" ++ 0xC3 ∷ 0xA9 ∷ codes "$\nDisallow: /%%341"

abbrev pub mixed_text : List ℕ
mixed_text =
    codes "\nUser-agent: Bot\n\nUser-agent: Other/1\nDisallow: $/\nDisallow: /b%7B%24a%FF\n"
    ++ codes "Allow: /*%C3%A9$\nDisallow: /%41\n"
