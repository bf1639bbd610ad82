use Rattle.std.proofs.{Common.arith, Common.sym, lemmas.Grind.common_steps}
use Rattle.texting_robots.proofs.TrimLemmas.{other_value}
use Rattle.texting_robots.proofs.parser.statement.value_is.Goals as goal

pub returns-then-not-eq_ignore_ascii_case : goal.returns-then-not-eq_ignore_ascii_case
returns-then-not-eq_ignore_ascii_case c =
    sym (other_value _ _ _ _ c.in-Some-Some.ensures.value c.in-Some-Some.ensures'.value
    (grind (arith, common_steps, c.if-first-ne35.true)) (sym c.if-is_ascii_graphic.ensures.value)
    (sym c.if-not-eq_ignore_ascii_case.ensures))
