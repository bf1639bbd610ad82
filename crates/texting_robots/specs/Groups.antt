-- The groups of a file, as in RFC 9309, section 2.2.1: one or more user-agent lines, and the rules and delays
-- below them, up to the next user-agent line. Other lines belong to no group and separate nothing.
use Rattle.std.specs.Prelude.{ℕ, ◌+◌, Bool, List, [], ◌∷◌, ◌++◌, bytes_eq, if◌then◌else◌}
use Rattle.std.specs.{List.list_any, Str.str_to_ascii_lowercase}
use Rattle.texting_robots.specs.{Group.is_member, Line.LineValue, Line.UserAgent}

-- the names of a group, and its rules and delays, each with the position of its line, counted from 0
pub record GroupValue : Type 0 where
  pub names : List (ℕ × List ℕ)
  pub lines : List (ℕ × LineValue)

-- the groups of some lines, and the rules and delays above the first of their user-agent lines
pub record Grouped : Type 0 where
  pub above : List (ℕ × LineValue)
  pub groups : List GroupValue

-- one more name above these lines and groups; it joins a group that follows at once, and else begins one
abbrev pub with_name : ℕ × List ℕ → List (ℕ × LineValue) → List GroupValue → List GroupValue
with_name name [] (group ∷ groups) = record { names = name ∷ group.names; lines = group.lines } ∷ groups
with_name name lines groups = record { names = name ∷ []; lines = lines } ∷ groups

-- one more line, at this position, with these below it
abbrev pub with_line : ℕ → LineValue → Grouped → Grouped
with_line position (UserAgent name) below =
    record { above = []; groups = with_name (position, name) below.above below.groups }
with_line position line below = record {
  above = if is_member line then (position, line) ∷ below.above else below.above;
  groups = below.groups;
}

-- the groups of lines whose first is at this position
abbrev pub grouped_from : ℕ → List LineValue → Grouped
grouped_from position [] = record { above = []; groups = [] }
grouped_from position (line ∷ lines) = with_line position line (grouped_from (position + 1) lines)

abbrev pub groups : List LineValue → List GroupValue
groups lines = (grouped_from 0 lines).groups

-- whether the group names these crawlers; the name is given in lower case
abbrev pub is_for : List ℕ → GroupValue → Bool
is_for name group = list_any (λ (n : ℕ × List ℕ). bytes_eq (str_to_ascii_lowercase n.1) name) group.names

-- the rules and delays of the groups that name these crawlers
abbrev pub lines_for : List ℕ → List GroupValue → List (ℕ × LineValue)
lines_for name [] = []
lines_for name (group ∷ groups) =
    if is_for name group then group.lines ++ lines_for name groups else lines_for name groups
