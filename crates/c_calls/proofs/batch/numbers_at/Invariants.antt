use Rattle.std.proofs.Common.{drop}
use Rattle.c_calls.proofs.NumberLemmas.{SoFar}
use Rattle.c_calls.proofs.batch.numbers_at.Given as goal

abbrev pub invariant-loop-end : goal.invariant-loop-end
invariant-loop-end l =
    SoFar l.robot l.fn.text l.fn.ends l.start (drop l.end-index l.fn.ends) l.numbers.items
