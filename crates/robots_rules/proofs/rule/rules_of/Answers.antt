use Rattle.std.proofs.{Common.append_assoc}
use Rattle.robots_rules.proofs.rule.rules_of.Goals as goal

pub loop-rule-preserved : goal.loop-rule-preserved
loop-rule-preserved c = record {
  can_next = tt;
  is_finite = tt;
  all = rw (c.in_ok-push.ensures.items, append_assoc, c.in_ok-made.ensures)
      (rw c.in-Some.ensures.steps at c.loop-rule.invariant.all);
}
