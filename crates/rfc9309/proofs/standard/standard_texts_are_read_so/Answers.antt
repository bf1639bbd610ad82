use Rattle.rfc9309.proofs.{PatternLemmas.pattern_matches, StandardLemmas.text_rules}
use Rattle.rfc9309.proofs.{StandardLemmas.text_verdict}
use Rattle.rfc9309.proofs.{TextLemmas.text_lines}
use Rattle.rfc9309.proofs.standard.standard_texts_are_read_so.Goals as goal

pub returns : goal.returns
returns c = record {
  verdicts = text_verdict;
  rules = text_rules;
  matching = pattern_matches;
  lines = text_lines;
}
