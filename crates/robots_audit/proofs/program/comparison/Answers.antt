use Rattle.robots_audit.proofs.program.comparison.Goals as goal

pub returns : goal.returns
returns c = record {
  comparison = c.in_ok-compared.compared;
  of = rw (c.deref.ensures.value, c.deref-2.ensures.value) at c.in_ok-compared.ensures.ok;
  listed = rw (c.rejects_some-is_rejected.ensures, c.has_passed-has_passed.ensures) at c.in_ok-listed.ensures;
}
