use Rattle.std.proofs.Common.{◌≡◌, ℕ, ◌<◌, length, get_or}
use Rattle.texting_robots.specs.Internal.Segments.{no_entry, mask_in}
use Rattle.texting_robots.proofs.rules.put_masks.Given as goal

abbrev pub invariant-loop-at : goal.invariant-loop-at
invariant-loop-at l =
    record {
      as_many : length l.masks.items ≡ length l.fn.masks.items;
      masked : (k : ℕ) → k < l.at
          → get_or l.masks.items k 0 ≡ mask_in l.text (get_or l.entries k no_entry);
    }
