-- Sets of bytes as tables.
use Rattle.std.specs.Prelude.{ℕ, ◌==◌, Bool, not, List, ◌++◌, take, drop, length, slice_index, ◌-◌, ◌/◌}
use Rattle.std.specs.Int.Bits.{bit_and}
use Rattle.texting_robots.specs.declared.byte_set.TheConstants.{UPPER}

-- the byte is in the set: the table, at the lower half of the byte, has the bit of its upper half
unfoldable pub is_kept : List ℕ → ℕ → Bool
is_kept set b = not (bit_and (slice_index set (bit_and b 15)) (slice_index UPPER.now (b / 16)) == 0)

-- the first and then the last `k` bytes
abbrev pub ends_of : ℕ → List ℕ → List ℕ
ends_of k text = take k text ++ drop (length text - k) text
