use Rattle.std.proofs.Common.{◌≡◌, map, take}
use Rattle.robots_rules.proofs.same.are_same_texts.Given as goal

abbrev pub invariant-loop-k : goal.invariant-loop-k
invariant-loop-k l =
    map (λ text. text.now) (take l.k l.texts) ≡ map (λ text. text.now) (take l.k l.others)
