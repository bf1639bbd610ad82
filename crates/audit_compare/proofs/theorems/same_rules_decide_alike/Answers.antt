use Rattle.texting_robots.specs.Callers.{placed_rules}
use Rattle.audit_compare.proofs.CompareLemmas.{decide_alike, reported_alike}
use Rattle.audit_compare.proofs.theorems.same_rules_decide_alike.Goals as goal

pub returns : goal.returns
returns c = record {
  rules = λ agent older newer. decide_alike (placed_rules agent older) (placed_rules agent newer);
  reported = reported_alike;
}
