-- Sets of names in lower case.
use Rattle.std.specs.Prelude.{◌≡◌, ℕ, Bool, bytes_eq, false, not, true, ◌||◌, List}
use Rattle.std.specs.{BTreeSet.BTreeSet, BTreeSet.contains, Global.Vec, List.list_any, Ordering.nat_cmp}
use Rattle.std.specs.{Str.str_to_ascii_lowercase, Cmp.Lexicographic.slice_cmp, declared.cmp.Ordering.Ordering}
use Rattle.texting_robots.specs.Callers.{LineValue, is_agent_named}
use Rattle.robots_warnings.specs.Crawlers.{has_new_name}

abbrev pub Key : Type 0
Key = Vec ℕ

abbrev pub key_cmp : Key → Key → Ordering
key_cmp one two = slice_cmp nat_cmp one.items two.items

-- `is_new`: the old set didn't contain the name
pub record AddsName (old new : BTreeSet Key) (name : List ℕ) (is_new : Bool) : Type 0 where
  pub lowered : Key
  pub in_lower_case : lowered.items ≡ str_to_ascii_lowercase name
  pub new_if : is_new ≡ not (contains key_cmp old lowered)
  pub each : (key : Key) → contains key_cmp new key
      ≡ (contains key_cmp old key || bytes_eq (str_to_ascii_lowercase name) key.items)

-- the set contains the names in these lines
pub record HasNames (names : BTreeSet Key) (lines : List LineValue) : Type 0 where
  pub each : (key : Key) → contains key_cmp names key ≡ false
      → list_any (is_agent_named key.items) lines ≡ false

-- the name of a user-agent line was added. `is_new`: it wasn't in the old set
pub record AddsLine (old new : BTreeSet Key) (line : LineValue) (is_new : Bool) : Type 0 where
  pub was : (lines : List LineValue) → HasNames old lines → is_new ≡ true → has_new_name lines line ≡ true
  pub each : (key : Key) → contains key_cmp new key
      ≡ (contains key_cmp old key || is_agent_named key.items line)
