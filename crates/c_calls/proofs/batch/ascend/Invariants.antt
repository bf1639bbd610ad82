use Rattle.std.proofs.Common.{drop}
use Rattle.c_calls.proofs.NumberLemmas.{SameAscent}
use Rattle.c_calls.proofs.batch.ascend.Given as goal

abbrev pub invariant-loop-end : goal.invariant-loop-end
invariant-loop-end l = SameAscent l.fn.ends l.fn.limit l.least (drop l.end-index l.fn.ends)
