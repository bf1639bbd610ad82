-- The lines of a file with their membership in a crawler's group.
use Rattle.std.specs.Prelude.{◌≡◌, ◌⊎◌, ℕ, ◌+◌, ◌<◌, Bool, true, false, not, ◌||◌, List, IsTrue, Some, drop}
use Rattle.std.specs.Prelude.{if◌then◌else◌, map, slice_get, take}
use Rattle.std.specs.{List.enumerate_from, List.list_any, List.position_or_len, Str.str_to_ascii_lowercase}
use Rattle.texting_robots.specs.declared.labels.{LabeledLine.LabeledLine, Membership.Membership}
use Rattle.texting_robots.specs.Line.{LineValue, by_value}
use Rattle.texting_robots.specs.Internal.{Captured.is_captured, Line.line_of}
use Rattle.texting_robots.specs.declared.labels.Membership.TheVariants.{Own, Other, Ungrouped}
use Rattle.texting_robots.specs.Group.{IsCaptured, is_agent, is_agent_named, is_member, passes_at}

-- a line with its number, counted from 1, its membership and its content
pub record Label : Type 0 where
  pub number : ℕ
  pub membership : Membership
  pub line : LineValue
  pub body : List ℕ

abbrev pub lines_in : List Label → List LineValue
lines_in labels = map (λ (label : Label). label.line) labels

abbrev pub bodies_in : List Label → List (List ℕ)
bodies_in labels = map (λ (label : Label). label.body) labels

-- each member (an Allow, a Disallow or a Crawl-delay) is above both positions, or below both
abbrev pub AreOneGroup : List LineValue → ℕ → ℕ → Type 0
AreOneGroup lines i j =
    (k : ℕ) → IsTrue (passes_at is_member lines k) → ((k < i) × (k < j)) ⊎ ((i < k) × (j < k))

-- a captured member, or a user-agent line of a group with the name, so that no member is between the two
-- lines
abbrev pub IsInOwnGroup : List ℕ → List LineValue → ℕ → Type 0
IsInOwnGroup name lines position =
    (IsTrue (passes_at is_member lines position) × IsCaptured name lines position)
    ⊎ (IsTrue (passes_at is_agent lines position)
    × (j : ℕ) × IsTrue (passes_at (is_agent_named name) lines j) × AreOneGroup lines position j)

-- a user-agent line, or a member below one
abbrev pub IsInGroup : List LineValue → ℕ → Type 0
IsInGroup lines position =
    IsTrue (passes_at is_agent lines position)
    ⊎ (IsTrue (passes_at is_member lines position)
    × (j : ℕ) × (j < position) × IsTrue (passes_at is_agent lines j))

-- the membership of the line at the position, for a group name
abbrev pub HasMembership : List ℕ → List LineValue → ℕ → Membership → Type 0
HasMembership name lines position Own = IsInOwnGroup name lines position
HasMembership name lines position Other = (¬ IsInOwnGroup name lines position) × IsInGroup lines position
HasMembership name lines position Ungrouped = (¬ IsInOwnGroup name lines position)
    × (¬ IsInGroup lines position)

-- the labels of these lines, in order, with their numbers, counted from 1, and their memberships
pub record AreLabelsOf (name : List ℕ) (lines : List LineValue) (labels : List Label) : Type 0 where
  pub lines_are : lines_in labels ≡ lines
  pub each : (position : ℕ) (label : Label) → slice_get labels position ≡ Some label
      → (label.number ≡ position + 1) × HasMembership name lines position label.membership

-- ---- labels as a function; by the theorem `each_line_has_its_label` it agrees with `AreLabelsOf`

-- the position of the first member from this one on, or the number of lines
abbrev pub next_member : List LineValue → ℕ → ℕ
next_member lines at = at + position_or_len is_member (drop at lines)

-- a user-agent line is treated like the next member
abbrev pub membership_of : List ℕ → List LineValue → ℕ × LineValue → Membership
membership_of name lines p =
    if not (is_agent p.1 || is_member p.1) then Ungrouped
    else if is_captured name lines (next_member lines p.0) then Own
    else if list_any is_agent (take (p.0 + 1) lines) then Other
    else Ungrouped

-- the label of the line with this content, among these lines
abbrev pub label_at : List ℕ → List LineValue → ℕ × List ℕ → Label
label_at name lines p = record {
  number = p.0 + 1;
  membership = membership_of name lines (p.0, line_of p.1);
  line = line_of p.1;
  body = p.1;
}

-- the labels of the lines with these contents
abbrev pub labels_of : List ℕ → List (List ℕ) → List Label
labels_of name bodies = map (label_at name (map line_of bodies)) (enumerate_from 0 bodies)

-- a labeled line by value, wherever its bytes are in memory
abbrev pub label_by_value : LabeledLine → Label
label_by_value labeled = record {
  number = labeled.number;
  membership = labeled.membership;
  line = by_value labeled.line;
  body = labeled.body.now;
}

abbrev pub is_own : Membership → Bool
is_own Own = true
is_own _ = false

abbrev pub is_named : List ℕ → List LineValue → Bool
is_named agent lines = list_any (is_agent_named (str_to_ascii_lowercase agent)) lines
