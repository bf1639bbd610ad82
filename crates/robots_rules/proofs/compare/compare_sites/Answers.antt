use Rattle.robots_rules.proofs.compare.compare_sites.Goals as goal

pub returns : goal.returns
returns c =
    rw (
      ← c.in_ok-old_rules.ensures,
      ← c.in_ok-new_rules.ensures,
      ← c.as_slice.ensures.value,
      ← c.as_slice-2.ensures.value,
    ) c.in_ok-answer.ensures
