use Rattle.std.proofs.Common.{[], ◌∷◌, List, ℕ, arith, codes, false, refl, true}
use Rattle.std.proofs.lemmas.Bool.{false≢true}
use Rattle.std.specs.Str.{chars, is_utf8}
use lib.Utf8.{encode}
use Rattle.texting_robots.specs.Callers.{IsVerdict, LineValue, placed_rules, rules_for}
use Rattle.texting_robots.proofs.Shared.{rule_answers, verdict_unique}
use Rattle.robots_rules.specs.{Examples.three, Examples.twice, Needless.AreDeletable, Needless.lines_without}
use Rattle.robots_rules.proofs.theorems.examples.Goals as goal

-- a text that is denied with the lines and allowed without them
differs : (numbers : List ℕ) (lines : List LineValue) (text : List ℕ)
    → IsVerdict (rules_for (codes "*") lines) text false
    → IsVerdict (rules_for (codes "*") (lines_without numbers lines)) text true → ¬ AreDeletable numbers lines
differs numbers lines text denied allowed are =
    let same = (are.alike (codes "*") (0, omega arith, refl)).verdicts text false in
    false≢true (verdict_unique _ text false true (same.0 denied) allowed)

pub returns : goal.returns
unfolding is_utf8 chars encode
returns c = record {
  not_both = differs _ twice (codes "/a") (rule_answers (placed_rules (codes "*") twice) (codes "/a")).0
      (rule_answers [] (codes "/a")).0;
  between = differs _ three (codes "/abc") (rule_answers (placed_rules (codes "*") three) (codes "/abc")).0
      (rule_answers (placed_rules (codes "*") (lines_without (4 ∷ []) three)) (codes "/abc")).0;
}
