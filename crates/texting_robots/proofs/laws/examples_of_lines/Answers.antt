use Rattle.std.proofs.Common.{arith}
use Rattle.bstr.specs.{Trim.kept_end, Trim.kept_start, Utf8.pieces_from, Utf8.spans_from}
use Rattle.texting_robots.specs.Internal.{Cut.cut, Delay.delay_of, Line.line_of, Statement.statement_of}
use Rattle.texting_robots.proofs.{LineLemmas.lines_are, StatementLemmas.statement_sound}
use Rattle.texting_robots.proofs.laws.examples_of_lines.Goals as goal

pub returns : goal.returns
unfolding cut line_of statement_of delay_of kept_end kept_start spans_from pieces_from
returns c = grind (arith, statement_sound, lines_are)
