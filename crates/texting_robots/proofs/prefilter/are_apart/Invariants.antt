use Rattle.std.proofs.Common.{◌≡◌, ◌+◌, true}
use Rattle.texting_robots.specs.Internal.Segments.{AreApart}
use Rattle.texting_robots.proofs.prefilter.are_apart.Given as goal

abbrev pub invariant-loop-k : goal.invariant-loop-k
invariant-loop-k l = l.apart ≡ true → AreApart l.masks l.text l.from (l.from + l.k)
