use Rattle.std.proofs.{Common.arith, Common.inl, Common.inr, lemmas.List.length-map}
use Rattle.texting_robots.proofs.{BestLemmas.allowed_if_none, FirstLemmas.first_line, FirstLemmas.none_occurs}
use Rattle.texting_robots.proofs.rules.Rules.decision_within.Goals as goal

pub returns-then-is_robots_file-clause-visits : goal.returns-then-is_robots_file-clause-visits
returns-then-is_robots_file-clause-visits c = grind (arith, c.is_robots_file.ensures.0)

pub returns-in-Some-clause-visits : goal.returns-in-Some-clause-visits
returns-in-Some-clause-visits c = rw (← c.self.view_is) (λ differs none.
    let found = rw c.in-Some.is at c.in_ok-at.ensures.some in
    let first = first_line c.self.inside.table c.self.invariant.0.known c.self.invariant.1
    c.args.view.now.text c.in-Some.at found in
    absurd (elim none [ inl same ↦ differs same | inr nowhere ↦ nowhere _ first.listed first.matches ]))

pub returns-in-None-clause-decision : goal.returns-in-None-clause-decision
returns-in-None-clause-decision c =
    let none = none_occurs c.self.inside.table c.self.invariant.0.known c.args.view.now.text
    (rw c.in-None.is at c.in_ok-at.ensures.none) in
    rw (← c.self.view_is) (record { verdict = allowed_if_none _ _ none; deciding = inr none })

pub returns-in-None-clause-visits : goal.returns-in-None-clause-visits
returns-in-None-clause-visits c = grind (arith, length-map)
