use Rattle.texting_robots.proofs.VerdictLemmas.{less_is_before, equal_is_same}
use Rattle.texting_robots.proofs.minregex.MinRegexOrd.cmp.Goals as goal

pub returns-clause-less : goal.returns-clause-less
returns-clause-less c = rw c.order.ensures (less_is_before _ _)

pub returns-clause-equal : goal.returns-clause-equal
returns-clause-equal c = rw c.order.ensures (equal_is_same _ _)
