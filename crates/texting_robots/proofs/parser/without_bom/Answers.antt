use Rattle.std.proofs.Common.{◌≡◌, ◌++◌, ℕ, List, rules, subst, sym}
use Rattle.texting_robots.proofs.LineLemmas.{without_bom_suffix}
use Rattle.texting_robots.proofs.parser.without_bom.Goals as goal

pub returns-clause-value : goal.returns-clause-value
returns-clause-value c = search rules

pub returns-clause-end : goal.returns-clause-end
returns-clause-end c = subst (λ rest. (front : List ℕ) × (c.args.text.now ≡ front ++ rest))
    (sym (returns-clause-value c)) (without_bom_suffix c.args.text.now)
