use Rattle.std.proofs.Common.{refl}
use Rattle.audit_core.proofs.audit.audit_without_group.Goals as goal

pub returns-clause-ok : goal.returns-clause-ok
returns-clause-ok c = record {
  like = c.in_ok-audit.audit;
  like_is = rw (c.in_ok-readings.ensures.readings.bytes, c.in_ok-crawler.ensures.agent) at
      c.in_ok-audit.ensures.ok;
  same = rw (← c.audit.view_is) refl;
}
