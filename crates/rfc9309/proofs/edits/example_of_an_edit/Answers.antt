use Rattle.std.proofs.Common.{◌∷◌, List, [], codes, inl, inr, refl}
use Rattle.std.proofs.lemmas.Bool.{false≢true}
use Rattle.std.specs.Str.{chars, is_utf8}
use lib.Utf8.{encode}
use Rattle.bstr.specs.{Trim.kept_end, Trim.kept_start, Utf8.pieces_from, Utf8.spans_from}
use Rattle.texting_robots.specs.Internal.{Cut.cut, Line.line_of, Statement.statement_of}
use Rattle.texting_robots.specs.Line.{Allow, Disallow, LineValue, UserAgent}
use Rattle.texting_robots.proofs.Shared.{each_text_has_its_lines, is_captured_decides}
use Rattle.rfc9309.proofs.edits.example_of_an_edit.Goals as goal

abbrev lines : List LineValue
lines = UserAgent (codes "a") ∷ Disallow (codes "/") ∷ []

pub returns : goal.returns
unfolding cut line_of statement_of kept_end kept_start pieces_from spans_from is_utf8 chars encode
returns c = record {
  above = UserAgent (codes "a") ∷ [];
  line = Disallow (codes "/");
  other_line = Allow (codes "/");
  below = [];
  lines = (each_text_has_its_lines _ _).1 refl;
  other_lines = (each_text_has_its_lines _ _).1 refl;
  rule = (codes "/", inr refl);
  other_rule = (codes "/", inl refl);
  uncaptured = λ is. false≢true ((is_captured_decides (codes "*") lines 1).1 is);
}
