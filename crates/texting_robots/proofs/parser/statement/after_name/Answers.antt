use Rattle.std.proofs.{Common.arith, lemmas.List.length-map}
use Rattle.texting_robots.proofs.StatementLemmas.{written_same, written_other}
use Rattle.texting_robots.proofs.parser.statement.after_name.Goals as goal

pub returns-then-eq_ignore_ascii_case : goal.returns-then-eq_ignore_ascii_case
returns-then-eq_ignore_ascii_case c =
    grind (arith, length-map, written_same, c.in_ok-key.ensures.cases, c.eq_ignore_ascii_case.ensures.test.0)

pub returns-else-eq_ignore_ascii_case : goal.returns-else-eq_ignore_ascii_case
returns-else-eq_ignore_ascii_case c =
    grind (arith, written_other, c.in_ok-key.ensures.cases, c.eq_ignore_ascii_case.ensures.test.1)
