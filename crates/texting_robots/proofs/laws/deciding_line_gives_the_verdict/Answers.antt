use Rattle.texting_robots.proofs.MainTheoremLemmas.{line_gives_verdict, no_line_allows}
use Rattle.texting_robots.proofs.laws.deciding_line_gives_the_verdict.Goals as goal

pub returns : goal.returns
returns c = record {
  line = line_gives_verdict;
  none = no_line_allows;
}
