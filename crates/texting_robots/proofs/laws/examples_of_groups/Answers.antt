use Rattle.std.specs.Prelude.{codes}
use Rattle.std.proofs.{Common.refl, lemmas.Bool.Decides.not_from_Decides}
use Rattle.std.specs.Str.{chars, is_utf8}
use Rattle.bstr.specs.{Trim.kept_end, Trim.kept_start, Utf8.pieces_from, Utf8.spans_from}
use Rattle.texting_robots.specs.{Examples.early_delays, Executable.file_lines}
use Rattle.texting_robots.specs.Examples.{groups, one_rule, rejected_delay, simple, three_values, two_delays}
use Rattle.texting_robots.specs.Internal.{Cut.cut, Delay.delay_of, Line.line_of, Statement.statement_of}
use Rattle.texting_robots.proofs.{CapturedLemmas.is_captured_decides, MainTheoremLemmas.has_lines}
use Rattle.texting_robots.proofs.ExampleLemmas.{gives_delay, gives_rules}
use lib.Utf8.{encode}
use Rattle.texting_robots.proofs.laws.examples_of_groups.Goals as goal

pub returns : goal.returns
unfolding cut line_of statement_of delay_of kept_end kept_start spans_from pieces_from is_utf8 chars encode
returns c = record {
  own_group = gives_rules _ simple;
  two_names = (gives_rules _ simple, gives_rules _ simple);
  star_group = gives_rules _ simple;
  empty_group = gives_rules _ simple;
  captured = has_lines simple _ (
    (is_captured_decides (codes "bazbot") (file_lines simple) 12).0 refl,
    not_from_Decides _ (is_captured_decides (codes "bazbot") (file_lines simple) 6) refl,
    not_from_Decides _ (is_captured_decides (codes "quxbot") (file_lines simple) 12) refl,
  );
  merged_groups = (gives_rules _ groups, gives_rules _ groups, gives_rules _ groups);
  no_agents = gives_rules _ one_rule;
  values = gives_rules _ three_values;
  raw_in_a_group = gives_delay (codes "D") rejected_delay 8000000 refl;
  which_delay = (
    gives_delay (codes "BobBot") two_delays 5000000 refl,
    gives_delay (codes "BobBot") early_delays 2000000 refl,
  );
}
