use Rattle.std.proofs.Common.{arith}
use Rattle.texting_robots.proofs.SearchLemmas.{after_found, found_nowhere}
use Rattle.texting_robots.proofs.haystack.after_first.Goals as goal

pub returns-in_err-at : goal.returns-in_err-at
returns-in_err-at c = rw c.from_residual.ensures (found_nowhere _ _ 0 (omega arith) c.in_err-at.ensures)

pub returns : goal.returns
returns c = rw c.split_at.ensures.back (after_found _ _ 0 (omega arith) _ c.in_ok-at.ensures)
