use Rattle.std.proofs.Common.{◌≡◌, ◌<◌, ℕ, get_or}
use Rattle.robots_rules.proofs.ReplacedLemmas.{IsPlain}
use Rattle.robots_rules.proofs.needless.are_apart.Given as goal

abbrev pub invariant-loop-k : goal.invariant-loop-k
invariant-loop-k l = (j : ℕ) → j < l.k → IsPlain (get_or l.one j 0) × (get_or l.one j 0 ≡ get_or l.other j 0)
