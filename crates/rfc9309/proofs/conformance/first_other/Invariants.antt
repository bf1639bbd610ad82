use Rattle.std.proofs.Common.{◌≡◌, ◌+◌, false}
use Rattle.std.specs.Iterator.Adapters.{enumerate_count, enumerate_source}
use Rattle.texting_robots.specs.Callers.{file_bodies}
use Rattle.rfc9309.specs.Conformance.{first_other}
use Rattle.rfc9309.proofs.conformance.first_other.Given as goal

abbrev pub invariant-loop-at : goal.invariant-loop-at
invariant-loop-at l =
    first_other l.below (enumerate_count l.at-iterator + 1) (enumerate_source l.at-iterator)
    ≡ first_other false 1 (file_bodies l.file)
