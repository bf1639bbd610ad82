use Rattle.texting_robots.proofs.{CollapseLemmas.collapse_keeps_meaning as kept, VerdictLemmas.length_decides}
use Rattle.texting_robots.proofs.laws.collapse_keeps_meaning.Goals as goal

pub returns : goal.returns
returns c = record {
  meaning = kept;
  length = length_decides;
}
