-- Known crawlers, and names of crawlers.
use Rattle.std.specs.Prelude.{[], ℕ, ◌-◌, ◌==◌, nat_eq, Bool, not, ◌||◌, ◌&&◌, List, bytes_eq, codes, length}
use Rattle.std.specs.Prelude.{◌+◌, if◌then◌else◌, take, ◌∷◌, Option, None, Some, find, is_none, is_some, map}
use Rattle.std.specs.Prelude.{nat_le, nat_lt, option_map, slice_index_or, unwrap_or, false, ◌≡◌, slice_get}
use Rattle.std.specs.Prelude.{true}
use Rattle.std.specs.Str.{byte, str_eq_ignore_ascii_case, is_utf8, str_to_ascii_lowercase}
use Rattle.std.specs.{List.before_first, List.position_from, Char.is_ascii_alphabetic, Option.option_or}
use Rattle.strsim.specs.Edits.{damerau}
use Rattle.texting_robots.specs.Callers.{LineValue, UserAgent, is_named, file_lines}
use Rattle.robots_warnings.specs.declared.crawlers.TheConstants.{CRAWLERS, WRONG_NAMES}

-- ---- The name of a crawler, in a request or in a user-agent line.

-- ASCII letters, `_` and `-`
abbrev pub is_token_byte : ℕ → Bool
is_token_byte b = is_ascii_alphabetic b || b == byte "_" || b == byte "-"

abbrev pub ends_token : ℕ → Bool
ends_token b = not (is_token_byte b)

-- ---- Known crawlers: which group the vendor of each applies to it, and which one a similar name may mean.

-- a crawler's name, and that of the group that its vendor applies to it if it has none of its own
abbrev pub Row : Type 0
Row = List ℕ × List ℕ

unfoldable pub crawlers : List Row
crawlers = map (λ row. (row.0.now, row.1.now)) CRAWLERS

abbrev pub row_at : ℕ → Row
row_at number = slice_index_or crawlers number ([], [])

unfoldable pub is_row_of : List ℕ → Row → Bool
is_row_of value row = str_eq_ignore_ascii_case row.0 value

-- the second name in the first of these rows that has this one
abbrev pub name_for : List ℕ → List Row → Option (List ℕ)
name_for value rows = option_map (λ (row : Row). row.1) (find (is_row_of value) rows)

abbrev pub is_known : List ℕ → Bool
is_known name = is_some (name_for name crawlers)

-- the value, if a vendor reads the name of this crawler in it: the letters, `_` and `-` that it starts with,
-- such as `Googlebot` of `Googlebot/2.1` and of `Googlebot*`
abbrev pub value_at_vendor : List ℕ → List ℕ → Option (List ℕ)
value_at_vendor agent value =
    if str_eq_ignore_ascii_case (before_first ends_token value) agent && is_utf8 value then Some value
    else None

abbrev pub name_at_vendor : List ℕ → LineValue → Option (List ℕ)
name_at_vendor agent (UserAgent value) = value_at_vendor agent value
name_at_vendor agent _ = None

-- the first such value of a user-agent line
abbrev pub first_at_vendor : List ℕ → List LineValue → Option (List ℕ)
first_at_vendor agent [] = None
first_at_vendor agent (line ∷ lines) = option_or (name_at_vendor agent line) (first_at_vendor agent lines)

-- the group that a vendor applies to a crawler without one of its own, where `group` is in the row of the
-- crawler: none if it is that of `*`, and an empty name if it is no group, although there is one of `*`
abbrev pub group_at_vendor : List LineValue → (group : List ℕ) → Option (List ℕ)
group_at_vendor lines group =
    if bytes_eq group (codes "*") then None
    else if length group == 0 then (if is_named (codes "*") lines then Some [] else None)
    else first_at_vendor group lines

-- the vendor reads the crawler's name in none of these lines, and applies another group
abbrev pub gets_other : List LineValue → (agent group : List ℕ) → Bool
gets_other lines agent group = is_none (first_at_vendor agent lines) && is_some (group_at_vendor lines group)

-- the vendor of the crawler in this row applies none of these groups to it, although `*` has one
abbrev pub ignores_star : List LineValue → Row → Bool
ignores_star lines row = length row.1 == 0 && gets_other lines row.0 row.1

-- the group of a crawler with or without a row
abbrev pub other_for : List LineValue → (agent : List ℕ) → (group : Option (List ℕ)) → Option (List ℕ)
other_for lines agent None = None
other_for lines agent (Some group) = option_or (first_at_vendor agent lines) (group_at_vendor lines group)

-- the group that the vendor of a known crawler applies to it, or an empty name for no group, if it isn't the
-- one that applies here: for `Googlebot`, that of `Googlebot/2.1`
abbrev pub other_group : List LineValue → List ℕ → Option (List ℕ)
other_group lines agent =
    if is_named agent lines then None else other_for lines agent (name_for agent crawlers)

-- names that no crawler has, each with that of the known crawler that is probably meant
unfoldable pub wrong_names : List Row
wrong_names = map (λ row. (row.0.now, row.1.now)) WRONG_NAMES

-- after how many edits a name is still recognized
abbrev pub most_edits : List ℕ → ℕ
most_edits name = if nat_lt (length name) 5 then 0 else if nat_lt (length name) 9 then 1 else 2

-- made of the name by so many edits, ASCII letters in any case, with the same first letter. To swap two
-- letters is one edit
abbrev pub is_near : List ℕ → List ℕ → Bool
is_near value name =
    let most = most_edits name in
    let lowered = str_to_ascii_lowercase in
    (not (length value == 0) && str_eq_ignore_ascii_case (take 1 value) (take 1 name))
    && ((nat_le (length value) (length name + most) && nat_le (length name) (length value + most))
    && nat_le (damerau nat_eq (lowered value) (lowered name)) most)

-- the value probably means the crawler in this row, which has the other name, or one that is near the value
-- or the letters, `_` and `-` that it starts with
unfoldable pub is_meant : (value other : List ℕ) → Row → Bool
is_meant value other row =
    bytes_eq row.0 other || (is_near value row.0 || is_near (before_first ends_token value) row.0)

-- the index of the crawler that is probably meant, if neither the value nor its start is the name of a known
-- one
abbrev pub meant : List ℕ → Option ℕ
meant value =
    if is_known value || is_known (before_first ends_token value) then None
    else position_from (is_meant value (unwrap_or (name_for value wrong_names) [])) 0 crawlers

-- ---- Crawlers that a file names only past the size limit.

-- a user-agent line with a name that none of these lines has, ASCII letters in any case
abbrev pub has_new_name : List LineValue → LineValue → Bool
has_new_name lines (UserAgent value) = not (is_named value lines)
has_new_name lines _ = false

-- the line with this number, counted from 1, is such a line of the file; `read` are the lines that are read
abbrev pub IsPastLimit : (read : List LineValue) → (file : List ℕ) → (number : ℕ) → Type 0
IsPastLimit read file number =
    (position : ℕ) × (line : LineValue) × (number ≡ position + 1)
    × (slice_get (file_lines file) position ≡ Some line) × (has_new_name read line ≡ true)
