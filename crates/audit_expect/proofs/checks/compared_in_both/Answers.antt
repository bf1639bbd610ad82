use Rattle.audit_expect.proofs.checks.compared_in_both.Goals as goal

pub returns-in_ok-compared_on_paths-in-Same : goal.returns-in_ok-compared_on_paths-in-Same
returns-in_ok-compared_on_paths-in-Same c = λ same. record {
  here = rw (c.as_bytes-path.ensures.value, c.in_ok-rules.ensures, c.requires.here.site_is)
      at (c.in_ok-other.ensures c.in-Same.is);
  standard = rw (
    c.deref.ensures.value,
    c.in_ok-push_pattern-in-Same.ensures,
    c.new-pattern.ensures.items,
    c.as_bytes-path.ensures.value,
    c.in_ok-rules-in-Same.ensures,
    c.text_site.ensures,
    c.requires.standard,
  ) at (c.in_ok-compared_on_paths-in-Same.ensures same);
}
