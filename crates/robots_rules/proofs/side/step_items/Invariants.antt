use Rattle.std.proofs.Common.{◌≡◌, ◌∷◌, List, take, ℕ}
use Rattle.robots_rules.specs.Internal.{last_kind, verdict}
use Rattle.robots_rules.proofs.side.step_items.Given as goal

abbrev pub invariant-loop-item : goal.invariant-loop-item
invariant-loop-item l = (t : List ℕ) → verdict l.made t ≡ last_kind l.start (take l.item-index l.items)
    (l.byte ∷ t)
