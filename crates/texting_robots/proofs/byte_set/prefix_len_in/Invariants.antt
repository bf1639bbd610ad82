use Rattle.std.proofs.Common.{◌≤◌, ◌-◌}
use Rattle.std.specs.List.{prefix_len}
use Rattle.texting_robots.specs.Internal.ByteSet.{is_kept}
use Rattle.texting_robots.proofs.byte_set.prefix_len_in.Given as goal

abbrev pub invariant-loop-at : goal.invariant-loop-at
invariant-loop-at l = l.at ≤ prefix_len (is_kept l.set) l.text

abbrev pub decreases-loop-at : goal.decreases-loop-at
decreases-loop-at l = l.last - l.at
