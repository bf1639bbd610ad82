use Rattle.rfc9309.proofs.EntryLemmas.{lines_robotstxt, robotstxt_lines}
use Rattle.rfc9309.proofs.grammar_is_by_lines.Goals as goal

pub returns : goal.returns
returns c = record {
  lines = robotstxt_lines;
  printed = lines_robotstxt;
}
