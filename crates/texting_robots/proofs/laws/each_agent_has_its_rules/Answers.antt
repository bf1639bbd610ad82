use Rattle.texting_robots.specs.Executable.{placed_rules}
use Rattle.texting_robots.proofs.MainTheoremLemmas.{answer_alike, placed_are_rules, rules_permuted}
use Rattle.texting_robots.proofs.MainTheoremLemmas.{rules_are_computed, rejection_is_computed}
use Rattle.texting_robots.proofs.laws.each_agent_has_its_rules.Goals as goal

pub returns : goal.returns
returns c = record {
  some = λ agent lines. (placed_rules agent lines, placed_are_rules agent lines);
  one = rules_permuted;
  alike = answer_alike;
  computed = rules_are_computed;
  rejected = rejection_is_computed;
}
