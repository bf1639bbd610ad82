use Rattle.std.proofs.Common.{◌≡◌, ◌++◌, length, true}
use Rattle.rfc9309.specs.{Matching.normal_from, StandardTarget.reading_of}
use Rattle.rfc9309.proofs.normal.push_normal.Given as goal

abbrev pub invariant-loop-rest : goal.invariant-loop-rest
invariant-loop-rest l =
    l.normal.items ++ normal_from (reading_of l.side) true l.rest
    ≡ l.fn.normal.items ++ normal_from (reading_of l.side) true l.text

abbrev pub decreases-loop-rest : goal.decreases-loop-rest
decreases-loop-rest l = length l.rest
