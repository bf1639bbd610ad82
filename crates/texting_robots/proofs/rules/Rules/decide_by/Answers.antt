use Rattle.std.proofs.Common.{arith, rules, inr}
use Rattle.std.proofs.lemmas.{Bool.iff_false, List.length-map}
use Rattle.texting_robots.proofs.FirstLemmas.{first_looks, none_occurs}
use Rattle.texting_robots.proofs.BestLemmas.{allowed_if_none}
use Rattle.texting_robots.proofs.rules.Rules.decide_by.Goals as goal

pub returns-in-Some : goal.returns-in-Some
returns-in-Some g c = record {
  verdict = grind (arith, iff_false, c.decision_at.ensures);
  line = grind (arith, iff_false, c.decision_at.ensures);
  looks = rw (← c.self.view_is) (first_looks c.self.inside.table c.self.invariant.0.known
      c.self.invariant.1 _ _ c.in-Some.at c.in-Some.ensures.some c.in-Some.ensures.looks);
  cost = search rules;
}

pub returns-in-None : goal.returns-in-None
returns-in-None g c =
    let none = none_occurs c.self.inside.table c.self.invariant.0.known _ c.in-None.ensures.none in
    record {
      verdict = rw (← c.self.view_is) (allowed_if_none _ _ none);
      line = rw (← c.self.view_is) (inr none);
      looks = rw (← c.self.view_is) (record {
        all = rw length-map c.in-None.ensures.looks;
        tried = λ placed is. absurd (none placed is.listed is.matches);
      });
      cost = search rules;
    }
