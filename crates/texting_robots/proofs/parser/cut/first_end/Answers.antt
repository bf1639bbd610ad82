use Rattle.std.proofs.Common.{true, false}
use Rattle.texting_robots.proofs.CutFromFront.{body_found, ends_as_is, ends_with_nul}
use Rattle.memchr.specs.Find.{is_byte2, is_byte3}
use Rattle.texting_robots.proofs.parser.cut.first_end.Goals as goal

pub returns-then-nul_ends : goal.returns-then-nul_ends
returns-then-nul_ends c =
    rw c.if-nul_ends.true (body_found true (is_byte3 13 10 0) _ _ ends_with_nul c.memchr3.ensures)

pub returns-else-nul_ends : goal.returns-else-nul_ends
returns-else-nul_ends c =
    rw c.if-nul_ends.false (body_found false (is_byte2 13 10) _ _ ends_as_is c.memchr2.ensures)
