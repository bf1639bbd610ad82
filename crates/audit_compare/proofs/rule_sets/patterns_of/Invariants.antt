use Rattle.std.proofs.Common.{◌≡◌, ℕ, List, take}
use Rattle.std.specs.BTreeSet.{contains_text}
use Rattle.audit_compare.specs.Compare.{has_rule}
use Rattle.audit_compare.proofs.rule_sets.patterns_of.Given as goal

abbrev pub invariant-loop-rule : goal.invariant-loop-rule
invariant-loop-rule l = (pattern : List ℕ) → contains_text l.patterns pattern
    ≡ has_rule (take l.rule-index l.rules) (pattern, l.is_allow)
