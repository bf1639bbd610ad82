use Rattle.std.proofs.Common.{List, IsPermutation, refl, rules, subst}
use Rattle.std.proofs.lemmas.Bool.{false≢true}
use Rattle.texting_robots.specs.Executable.{file_lines, sitemaps_in}
use Rattle.texting_robots.specs.{Pattern.IsOverlong, Rules.PlacedRule, Rules.Rule}
use Rattle.texting_robots.proofs.MainTheoremLemmas.{no_rules_of, read_delay, computed_robot}
use Rattle.texting_robots.proofs.RulesLemmas.{none_unplaced}
use Rattle.texting_robots.proofs.site.Site.robot_without_sitemaps.Goals as goal

pub returns-clause-robot : goal.returns-clause-robot
returns-clause-robot c =
    let none = none_unplaced (λ (rule : Rule). IsOverlong rule.0) _ c.in_ok-rules.ensures.accepted in (
      search rules,
      sitemaps_in (file_lines c.args.self.now),
      computed_robot c.args.agent.now c.args.self.now _ (record {
        delay = read_delay _ _ _ c.delay.ensures;
        sitemaps = refl;
        rules = subst (λ (all : List PlacedRule). IsPermutation all c.sorted.result)
            c.in_ok-rules.ensures.rules c.sorted.ensures;
        accepted = rw c.in_ok-rules.ensures.rules at none;
      }),
    )

pub returns-in_err-rules-clause-without_memory : goal.returns-in_err-rules-clause-without_memory
returns-in_err-rules-clause-without_memory c = λ nothing.
    absurd (false≢true (c.in_err-rules.ensures.without_memory (no_rules_of c.args.agent.now _ nothing)))
