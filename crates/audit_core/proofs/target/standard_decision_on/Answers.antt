use Rattle.std.proofs.Common.{◌∙◌}
use Rattle.audit_core.proofs.target.standard_decision_on.Goals as goal

pub returns : goal.returns
returns c =
    let is = c.as_str.ensures ∙ c.in_ok-target.ensures in record {
      verdict = rw is at c.decide_prepared.ensures.verdict;
      deciding = rw is at c.decide_prepared.ensures.line;
    }
