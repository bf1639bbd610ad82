use Rattle.audit_compare.proofs.vendor.verdicts_in_both.Goals as goal

pub returns-clause-ok : goal.returns-clause-ok
returns-clause-ok c =
    let old = c.in_ok-old.ensures in
    let new = c.in_ok-new.ensures in
    let older = c.requires.older.here.site_is in
    let newer = c.requires.newer.here.site_is in
    record {
      here = rw (old.ok.rules_are, new.ok.rules_are, old.agent, older, new.agent, newer)
          at c.in_ok-verdicts_for.ensures.ok;
      in_text = rw (old.agent, new.agent) at c.in_ok-standard_verdicts.ensures.ok;
    }
