use Rattle.std.proofs.Common.{drop}
use Rattle.c_calls.proofs.NumberLemmas.{SameUtf8}
use Rattle.c_calls.proofs.batch.are_utf8.Given as goal

abbrev pub invariant-loop-end : goal.invariant-loop-end
invariant-loop-end l = SameUtf8 l.fn.text l.fn.ends l.start (drop l.end-index l.fn.ends)
