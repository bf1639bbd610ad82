use Rattle.audit_compare.proofs.every_url.standard_verdicts.Goals as goal

pub returns-then-are_same_rules-2-clause-ok : goal.returns-then-are_same_rules-2-clause-ok
returns-then-are_same_rules-2-clause-ok c =
    let one = c.in_ok-old_text.ensures in
    let other = c.in_ok-new_text.ensures in (
      rw (
        c.deref.ensures.value,
        c.deref-2.ensures.value,
        c.requires.older.rules_are,
        one.ok.rules_are,
        one.agent,
        c.text_site.ensures,
        c.requires.old_file.standard,
      ) at (c.are_same_rules.ensures c.if-are_same_rules.true),
      rw (
        c.deref-then-are_same_rules.ensures.value,
        c.deref-then-are_same_rules-2.ensures.value,
        c.requires.newer.rules_are,
        other.ok.rules_are,
        other.agent,
        c.text_site-2.ensures,
        c.requires.new_file.standard,
      ) at (c.are_same_rules-then-are_same_rules.ensures c.if-are_same_rules-2.true),
    )

pub returns-clause-ok : goal.returns-clause-ok
returns-clause-ok c =
    let one = c.in_ok-old_text.ensures in
    let other = c.in_ok-new_text.ensures in
    rw (
      one.ok.rules_are,
      one.agent,
      c.text_site.ensures,
      c.requires.old_file.standard,
      other.ok.rules_are,
      other.agent,
      c.text_site-2.ensures,
      c.requires.new_file.standard,
    ) at c.in_ok-verdicts_for.ensures.ok
