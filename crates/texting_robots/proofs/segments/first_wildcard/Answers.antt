use Rattle.std.proofs.Common.{arith, rules}
use Rattle.std.proofs.lemmas.List.{length-drop, Sums.prefix_len-le-length}
use Rattle.texting_robots.proofs.LaneLemmas.{first_seen}
use Rattle.texting_robots.proofs.segments.first_wildcard.Goals as goal

pub returns-then-first-lt16 : goal.returns-then-first-lt16
returns-then-first-lt16 c = search (rules, first_seen, c.loop-rest.invariant, c.wildcard_in-first.ensures)

pub loop-rest-preserved : goal.loop-rest-preserved
loop-rest-preserved c =
    search (
      rules,
      first_seen,
      length-drop,
      c.loop-rest.invariant,
      c.wildcard_in-first.ensures,
      c.loop-rest.rest.now,
    )

pub overflow_add-result-2 : goal.overflow_add-result-2
overflow_add-result-2 c = grind (arith, prefix_len-le-length, c.loop-rest.invariant)
