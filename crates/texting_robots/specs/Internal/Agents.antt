-- Where a user-agent line may begin, by two adjacent bytes.
use Rattle.std.specs.Prelude.{◌≡◌, ℕ, ◌+◌, ◌<◌, ◌==◌, ◌||◌, Bool, true, false, nat_lt}
use Rattle.std.specs.Prelude.{List, drop, slice_index}
use Rattle.std.specs.List.{list_any}
use Rattle.texting_robots.specs.Group.{is_agent_named}
use Rattle.texting_robots.specs.Internal.{Cut.read_as, Line.lines_of, Statement.space, Statement.tab}

-- CR, LF and NUL are among these bytes
abbrev pub may_end : ℕ → Bool
may_end byte = nat_lt byte 14

-- a space, a tab, or the first letter of the field name: 'U' is 85, and 'u' 117
abbrev pub may_begin : ℕ → Bool
may_begin byte = byte == space || byte == tab || byte == 85 || byte == 117

-- no user-agent line begins right after one of the first n bytes
abbrev pub NoneBegins : List ℕ → ℕ → Type 0
NoneBegins text n =
    (at next : ℕ) → at < n → next ≡ at + 1 → may_end (slice_index text at) ≡ true
    → may_begin (slice_index text next) ≡ false

abbrev pub is_named_later : List ℕ → Bool → List ℕ → Bool
is_named_later name nul_ends text =
    list_any (is_agent_named name) (drop 1 (lines_of (read_as nul_ends text)))
