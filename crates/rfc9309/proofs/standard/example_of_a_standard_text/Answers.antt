use Rattle.std.proofs.Common.{◌≢◌, ◌∷◌, [], arith, codes, refl}
use Rattle.std.specs.Str.{chars, is_utf8}
use lib.Utf8.{encode}
use Rattle.bstr.specs.{Trim.kept_end, Trim.kept_start, Utf8.pieces_from, Utf8.spans_from}
use Rattle.texting_robots.specs.Internal.{Cut.cut, Delay.delay_of, Line.line_of, Statement.statement_of}
use Rattle.rfc9309.specs.Matching.{filled, is_ended, normal_from, without_end}
use Rattle.rfc9309.specs.Rfc9309 as rfc
use Rattle.rfc9309.proofs.VerdictLemmas.{each_contains}
use Rattle.rfc9309.proofs.standard.example_of_a_standard_text.Goals as goal

pub returns-clause-text : goal.returns-clause-text
unfolding cut line_of statement_of delay_of kept_end kept_start pieces_from spans_from chars encode
    normal_from is_ended without_end
returns-clause-text c = refl

pub returns-clause-mixed : goal.returns-clause-mixed
unfolding cut line_of statement_of delay_of kept_end kept_start pieces_from spans_from chars encode
    normal_from is_ended without_end
returns-clause-mixed c = refl

pub returns-clause-here : goal.returns-clause-here
unfolding cut line_of statement_of delay_of kept_end kept_start pieces_from spans_from is_utf8 chars encode
returns-clause-here c = λ (differs, pattern, has, matches, longest). absurd (omega (arith, has.1))

pub returns-clause-standard : goal.returns-clause-standard
unfolding cut line_of statement_of delay_of kept_end kept_start pieces_from spans_from chars encode
    normal_from is_ended without_end filled
returns-clause-standard c = record {
  other = λ e. cc;
  path = codes "/";
  listed = (0, omega arith, refl);
  some = λ e. cc;
  is_match = record { strings = []; rest = []; whole = refl; end = λ e. refl };
  most = λ allowed has is. absurd (each_contains (λ member. member ≢ rfc.Allow allowed)
      (rfc.Disallow (codes "/") ∷ []) _ ((λ e. cc), tt) has refl);
}
