use Rattle.std.proofs.Common.{take}
use Rattle.robots_rules.specs.Internal.{Adds, AreAlike}
use Rattle.robots_rules.proofs.side.add_next_bytes.Given as goal

abbrev pub invariant-loop-item : goal.invariant-loop-item
invariant-loop-item l = record {
  adds : Adds l.initial.bytes.items l.bytes.items;
  alike : AreAlike l.bytes.items (take l.item-index l.items);
}
