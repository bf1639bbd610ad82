-- Which lines are captured for a crawler, that is, apply to it. Lines are given by their positions in a file.
use Rattle.std.specs.Prelude.{◌⊎◌, ℕ, ◌<◌, Bool, true, false, List, IsTrue, codes, slice_get}
use Rattle.std.specs.Prelude.{bytes_eq, if◌then◌else◌}
use Rattle.std.specs.{List.list_any, Option.option_map_or, Str.str_to_ascii_lowercase}
use Rattle.texting_robots.specs.Line.{Allow, CrawlDelay, Disallow, LineValue, UserAgent}

abbrev pub is_agent : LineValue → Bool
is_agent (UserAgent value) = true
is_agent _ = false

-- an Allow, a Disallow or a Crawl-delay: a member of a group
abbrev pub is_member : LineValue → Bool
is_member (Allow value) = true
is_member (Disallow value) = true
is_member (CrawlDelay delay) = true
is_member _ = false

abbrev pub is_agent_named : List ℕ → LineValue → Bool
is_agent_named name (UserAgent value) = bytes_eq (str_to_ascii_lowercase value) name
is_agent_named name _ = false

-- the product token in lowercase if some user-agent line has it, else `*`
abbrev pub group_name : List ℕ → List LineValue → List ℕ
group_name agent lines =
    let lowered = str_to_ascii_lowercase agent in
    if list_any (is_agent_named lowered) lines then lowered else codes "*"

abbrev pub passes_at : (LineValue → Bool) → List LineValue → ℕ → Bool
passes_at test lines at = option_map_or test (slice_get lines at) false

-- between these two positions another group begins: there is a member, and a user-agent line after it
abbrev pub HasNewGroup : List LineValue → ℕ → ℕ → Type 0
HasNewGroup lines j i =
    (k : ℕ) × (l : ℕ) × (j < k) × (k < l) × (l < i)
    × IsTrue (passes_at is_member lines k) × IsTrue (passes_at is_agent lines l)

-- a user-agent line above the position has the name, and no other group begins in between
abbrev pub IsNamedBefore : List ℕ → List LineValue → ℕ → Type 0
IsNamedBefore name lines i =
    (j : ℕ) × (j < i) × IsTrue (passes_at (is_agent_named name) lines j) × ¬ (HasNewGroup lines j i)

-- a member at this position is captured for this group name: there is no user-agent line, or one of its group
-- has the name
abbrev pub IsCaptured : List ℕ → List LineValue → ℕ → Type 0
IsCaptured name lines i =
    ((k : ℕ) → ¬ IsTrue (passes_at is_agent lines k)) ⊎ IsNamedBefore name lines i
