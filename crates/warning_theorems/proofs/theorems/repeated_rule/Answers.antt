use Rattle.std.proofs.Common.{inr, refl, subst, sym}
use Rattle.robots_warnings.specs.{Repeated.IsRepeat}
use Rattle.warning_theorems.proofs.RepeatedLemmas.{rule_above}
use Rattle.warning_theorems.proofs.theorems.repeated_rule.Goals as goal

pub returns : goal.returns
returns c agent lines rules text number is are (differs, placed, decides, at) =
    let (line, above, listed) = rule_above are placed decides.listed (subst (IsRepeat lines) (sym at) is) in
    decides.best _ listed decides.matches (inr (refl, inr (refl, above)))
