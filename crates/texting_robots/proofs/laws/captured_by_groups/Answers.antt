use Rattle.texting_robots.proofs.SiteLemmas.{captured_in_groups, delays_of_groups, rules_of_groups}
use Rattle.texting_robots.proofs.laws.captured_by_groups.Goals as goal

pub returns : goal.returns
returns c = record { lines = captured_in_groups; rules = rules_of_groups; delays = delays_of_groups }
