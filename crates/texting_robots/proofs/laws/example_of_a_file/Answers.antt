use Rattle.std.proofs.Common.{arith, Some, codes, refl}
use Rattle.std.{proofs.lemmas.Bool.Decides.not_from_Decides, specs.Str.chars, specs.Str.is_utf8}
use Rattle.bstr.specs.{Trim.kept_end, Trim.kept_start, Utf8.pieces_from, Utf8.spans_from}
use Rattle.texting_robots.specs.Examples.{ferris_lines, ferris_robot}
use Rattle.texting_robots.{specs.Pattern.collapsed, proofs.LineLemmas.lines_are}
use Rattle.texting_robots.specs.Internal.{Cut.cut, Delay.delay_of, Line.line_of, Statement.statement_of}
use Rattle.texting_robots.proofs.ExampleLemmas.{answers, any_overlong_decides}
use Rattle.texting_robots.proofs.ExecutableLemmas.{delay_is_computed, sitemaps_are_computed}
use Rattle.texting_robots.proofs.MainTheoremLemmas.{placed_are_rules, rejection_is_computed}
use lib.Utf8.{encode}
use Rattle.texting_robots.proofs.laws.example_of_a_file.Goals as goal

pub returns : goal.returns
unfolding cut line_of statement_of delay_of kept_end kept_start spans_from pieces_from is_utf8 chars encode
    collapsed
returns c = record {
  lines = lines_are _ _ refl;
  robot = record {
    delay = (delay_is_computed (codes "FerrisCrawler") ferris_lines (Some 10000000)).1 refl;
    sitemaps = (sitemaps_are_computed ferris_lines ferris_robot.sitemaps).1 refl;
    rules = placed_are_rules _ _;
    accepted = grind (arith, any_overlong_decides, not_from_Decides, rejection_is_computed);
  };
  answers = (answers _ _, answers _ _, answers _ _);
}
