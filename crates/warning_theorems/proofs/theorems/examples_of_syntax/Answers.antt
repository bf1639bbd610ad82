use Rattle.std.proofs.{Common.refl}
use Rattle.std.specs.Str.{chars, is_utf8}
use lib.Utf8.{encode}
use Rattle.bstr.specs.{Trim.kept_end, Trim.kept_start, Utf8.pieces_from, Utf8.spans_from}
use Rattle.texting_robots.specs.Internal.{Cut.cut, Delay.delay_of, Line.line_of, Statement.statement_of}
use Rattle.rfc9309.specs.{Conformance.is_line_below, LineTest.is_number}
use Rattle.warning_theorems.proofs.theorems.examples_of_syntax.Goals as goal

pub returns : goal.returns
unfolding cut delay_of line_of statement_of kept_end kept_start pieces_from spans_from is_utf8 chars encode
    is_line_below is_number
returns c = (refl, refl, refl)
