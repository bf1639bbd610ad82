-- The values of the rules of a group that were seen so far.
use Rattle.std.specs.Prelude.{◌≡◌, ◌+◌, ℕ, Bool, List, Some, bytes_eq, slice_get, true}
use Rattle.std.specs.{HashSet.contains}
use Rattle.texting_robots.specs.Callers.{Allow, Disallow, LineValue}
use Rattle.robots_warnings.specs.declared.{values.Value.Value, repeated.Seen.Seen}
use Rattle.robots_warnings.specs.{Facts.is_rule, Repeated.IsAbove}

abbrev pub value_eq : Value → Value → Bool
value_eq one two = bytes_eq one.bytes.now two.bytes.now

-- only values of rules above this position in its group
pub record HasSeen (seen : Seen) (lines : List LineValue) (position : ℕ) : Type 0 where
  pub allows : (key : Value) → contains value_eq seen.allows key ≡ true
      → IsAbove lines position (Allow key.bytes.now)
  pub disallows : (key : Value) → contains value_eq seen.disallows key ≡ true
      → IsAbove lines position (Disallow key.bytes.now)

-- the line at this position is added to those above it; `is`: it repeats a rule
pub record AddsLine (old new : Seen) (line : LineValue) (is : Bool) : Type 0 where
  pub was : (lines : List LineValue) (position : ℕ) → HasSeen old lines position → is ≡ true
      → (is_rule line ≡ true) × IsAbove lines position line
  pub has : (lines : List LineValue) (position : ℕ) → HasSeen old lines position
      → slice_get lines position ≡ Some line → HasSeen new lines (position + 1)
