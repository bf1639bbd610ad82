use Rattle.std.proofs.Common.{◌≡◌, ◌≤◌, ◌*◌, take}
use Rattle.texting_robots.specs.Escape.{escaped}
use Rattle.texting_robots.proofs.escape.push_few_escapes.Given as goal

abbrev pub invariant-loop-byte : goal.invariant-loop-byte
invariant-loop-byte l =
    record {
      put : take l.len l.text ≡ escaped (take l.byte-index l.bytes);
      within : l.len ≤ 3 * l.byte-index;
    }
