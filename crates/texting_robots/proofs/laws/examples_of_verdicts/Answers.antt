use Rattle.texting_robots.proofs.ExampleLemmas.{answers}
use Rattle.texting_robots.proofs.laws.examples_of_verdicts.Goals as goal

pub returns : goal.returns
returns c = record {
  longest = (answers _ _, answers _ _);
  no_match = (answers _ _, answers _ _);
  tie = (answers _ _, answers _ _);
  stars_count = answers _ _;
  first_named = (answers _ _, answers _ _);
  robots_file = (answers _ _, answers _ _);
  empty_allow = answers _ _;
}
