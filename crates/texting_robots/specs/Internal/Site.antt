-- The lines of a site: names, members, the name index, and iterations over a crawler's members.
use Rattle.std.specs.Prelude.{◌≡◌, ℕ, ◌+◌, ◌==◌, Bool, not, ◌&&◌, ◌||◌, false, List, [], ◌∷◌, Option, Some}
use Rattle.std.specs.Prelude.{None, drop, filter, map, take, if◌then◌else◌, bytes_eq, ◌*◌, ◌%◌, ◌<◌, ◌≤◌, ◌≢◌}
use Rattle.std.specs.Prelude.{get_or, length, slice_get, ◌++◌, ltb}
use Rattle.std.specs.List.{cons_option, filter_map, list_any, position_or_len}
use Rattle.std.specs.{Option.option_or, Str.str_to_ascii_lowercase}
use Rattle.texting_robots.specs.{Group.is_agent, Group.is_member, Internal.Line.line_of}
use Rattle.texting_robots.specs.Line.{LineValue, UserAgent, delay_in}
use Rattle.texting_robots.specs.Executable.{delay_before_agents, file_lines, sitemap_in, sitemaps_in}
use Rattle.texting_robots.specs.declared.site.lines.{AgentLine.AgentLine, KeptLine.KeptLine}
use Rattle.texting_robots.specs.declared.site.{lines.ByteRange.ByteRange, own.Position.Position}
use Rattle.texting_robots.specs.declared.error.{Error.Error, RobotError.RobotError}
use Rattle.texting_robots.specs.declared.error.RobotError.TheVariants.{Memory, Overlong}
use Rattle.texting_robots.specs.declared.error.Error.TheVariants as error
pub use Rattle.texting_robots.specs.OwnLines.{Tagged, delay_of, rule_of, tag_of}

abbrev pub rejection_at : ℕ → Error → RobotError
rejection_at line error.InvalidRule = Overlong line
rejection_at line other = Memory

-- ---- Members with their group, which is the number of its first line. No member is between the user-agent
-- lines of a group.

-- the name of a user-agent line, its group, and how many members are above it
pub record Named : Type 0 where
  pub name : List ℕ
  pub group : ℕ
  pub start : ℕ

-- the group after the line with this number, and whether the next user-agent line belongs to it
abbrev pub group_after : ℕ → Bool → ℕ → LineValue → ℕ
group_after group joins number line = if is_agent line && not joins then number else group

abbrev pub joins_after : Bool → LineValue → Bool
joins_after joins line = is_agent line || (not (is_member line) && joins)

abbrev pub tag_in : ℕ → ℕ → LineValue → Option Tagged
tag_in group number line =
    if is_member line then Some (record { number = number; line = line; group = group }) else None

-- the members among those that are left; `group` is the group above them
abbrev pub tagged_from : ℕ → Bool → ℕ → List LineValue → List Tagged
tagged_from group joins position [] = []
tagged_from group joins position (line ∷ lines) =
    cons_option (tag_in group (position + 1) line)
    (tagged_from (group_after group joins (position + 1) line) (joins_after joins line) (position + 1) lines)

abbrev pub count_after : ℕ → LineValue → ℕ
count_after count line = if is_member line then count + 1 else count

abbrev pub named_in : ℕ → ℕ → LineValue → Option Named
named_in group count (UserAgent value) =
    Some (record { name = value; group = group; start = count })
named_in group count _ = None

abbrev pub named_from : ℕ → Bool → ℕ → ℕ → List LineValue → List Named
named_from group joins position count [] = []
named_from group joins position count (line ∷ lines) =
    cons_option (named_in (group_after group joins (position + 1) line) count line)
    (named_from (group_after group joins (position + 1) line) (joins_after joins line) (position + 1)
    (count_after count line) lines)

abbrev pub tagged : List LineValue → List Tagged
tagged lines = tagged_from 0 false 0 lines

abbrev pub named : List LineValue → List Named
named lines = named_from 0 false 0 0 lines

-- the name is given in lower case
abbrev pub has_name : List ℕ → Named → Bool
has_name name named = bytes_eq (str_to_ascii_lowercase named.name) name

abbrev pub is_of : List ℕ → ℕ → Named → Bool
is_of name group named = has_name name named && (named.group == group)

abbrev pub is_group_of : List ℕ → List Named → ℕ → Bool
is_group_of name names group = list_any (is_of name group) names

-- the members of the groups that have the name, in order
abbrev pub own_tagged : List ℕ → List LineValue → List Tagged
own_tagged name lines = filter (λ t. is_group_of name (named lines) t.group) (tagged lines)

abbrev pub in_front : ℕ → List Tagged → List Tagged
in_front group [] = []
in_front group (t ∷ tags) = if t.group == group then t ∷ in_front group tags else []

abbrev pub bytes_at : List ℕ → ByteRange → List ℕ
bytes_at text span = take span.len (drop span.start text)

abbrev pub line_at : List ℕ → ByteRange → LineValue
line_at text span = line_of (bytes_at text span)

abbrev pub tag_at : List ℕ → KeptLine → Tagged
tag_at text kept = record { number = kept.number; line = line_at text kept.span; group = kept.group }

abbrev pub named_of : AgentLine → Named
named_of agent = record { name = agent.name.items; group = agent.group; start = agent.start }

abbrev pub listed : List ℕ → ByteRange → Option (List ℕ)
listed text span = sitemap_in (line_at text span)

-- the last delay above the first user-agent line, after one more line; `begun`: that line was before it
abbrev pub early_after : Bool → Option ℕ → LineValue → Option ℕ
early_after begun early line = if begun then early else option_or (delay_in line) early

-- what a site keeps of a file; the delay is the last one above all user-agent lines
pub record IsIndexOf (text : List ℕ) (groups : List KeptLine) (names : List Named) (sitemaps : List ByteRange)
    (early : Option ℕ) : Type 0 where
  pub groups_are : map (tag_at text) groups ≡ tagged (file_lines text)
  pub names_are : names ≡ named (file_lines text)
  pub sitemaps_are : filter_map (listed text) sitemaps ≡ sitemaps_in (file_lines text)
  pub early_is : early ≡ delay_before_agents (file_lines text)

-- how many lines are before the first one with the name: all, if none has it
abbrev pub first_named : List ℕ → List Named → ℕ
first_named name names = position_or_len (has_name name) names

abbrev pub hash_from : ℕ → List ℕ → ℕ
hash_from hash [] = hash
hash_from hash (b ∷ bs) = hash_from ((hash * 33 + b) % 16777216) bs

abbrev pub bucket_of : ℕ → List ℕ → ℕ
bucket_of count name = hash_from 0 name % count

abbrev pub is_in : ℕ → ℕ → Named → Bool
is_in count bucket named = bucket_of count (str_to_ascii_lowercase named.name) == bucket

-- among the lines from `from` on, each bucket's head is its first line, and each line is linked to the next
-- line in its bucket
pub record AreLinked (from : ℕ) (names : List Named) (heads nexts : List ℕ) : Type 0 where
  pub buckets : length heads ≡ length names
  pub followed : length nexts ≡ length names
  pub heads_are : (b : ℕ) → b < length names
      → get_or heads b 0 ≡ from + position_or_len (is_in (length names) b) (drop from names)
  pub nexts_are : (i : ℕ) (n : Named) → from ≤ i → slice_get names i ≡ Some n → get_or nexts i 0
      ≡ i + 1 + position_or_len (is_in (length names) (bucket_of (length names)
      (str_to_ascii_lowercase n.name)))
      (drop (i + 1) names)

-- the group `other` is after `group`, and one of these user-agent lines is in it and has the name
abbrev pub is_later : List ℕ → ℕ → List Named → ℕ → Bool
is_later name group names other = ltb group other && is_group_of name names other

-- the leading members of `rest` in this group, and those of later groups in which one of these user-agent
-- lines has the name
abbrev pub own_from : List ℕ → ℕ → List Tagged → List Named → List Tagged → List Tagged
own_from name group rest names tags = in_front group rest
    ++ filter (λ t. is_later name group names t.group) tags

abbrev pub own_at : List ℕ → Position → List Named → List Tagged → List Tagged
own_at name position names tags =
    own_from name position.group (drop position.at tags) (drop position.name_index names) tags

abbrev pub AreOfFile : List Named → List Tagged → Type 0
AreOfFile names tags = (lines : List LineValue) × (names ≡ named lines) × (tags ≡ tagged lines)

-- the lists are of a file, and the user-agent line at the position has the name, or none is left
abbrev pub IsWalk : List ℕ → Position → List Named → List Tagged → Type 0
IsWalk name position names tags =
    (first_named name (drop position.name_index names) ≡ 0) × AreOfFile names tags

-- all lines that apply: those of the groups that have the name, or all if there is no user-agent line
abbrev pub IsWholeWalk : List ℕ → List Named → List Tagged → List Tagged → Type 0
IsWholeWalk name names tags walk =
    (lines : List LineValue) → names ≡ named lines → tags ≡ tagged lines
    → (names ≡ [] → walk ≡ in_front 0 tags) × (names ≢ [] → walk ≡ own_tagged name lines)
