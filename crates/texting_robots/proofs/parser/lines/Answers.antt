use Rattle.std.proofs.Common.{arith}
use Rattle.texting_robots.proofs.{CountLemmas.parsed_within, CutFromFront.read_as_is}
use Rattle.texting_robots.proofs.LineLemmas.{lines_are, lines_range}
use Rattle.texting_robots.proofs.parser.lines.Goals as goal

pub returns : goal.returns
returns c = record {
  value = grind (arith, read_as_is);
  lines = lines_are _ _ (grind (arith, read_as_is));
  ranges = lines_range _ _ (grind (arith, read_as_is));
  count = grind (arith, parsed_within, read_as_is);
}
