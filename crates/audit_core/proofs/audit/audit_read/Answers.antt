use Rattle.std.proofs.Common.{◌∙◌}
use Rattle.audit_core.proofs.AddedLemmas.{chosen_so}
use Rattle.audit_core.proofs.audit.audit_read.Goals as goal

pub returns-clause-ok : goal.returns-clause-ok
returns-clause-ok c =
    let read = c.requires.readings.here in
    let labels = c.requires.labels in
    let names = rw (c.deref.ensures.value, c.deref-2.ensures.value, read.lines_are) at c.in_ok-names.ensures
    in
    let (are, in_lines, told, closed, overruling) = chosen_so _ _ _ _ _ _ _ _ _
    (rw (c.deref-5.ensures.value, names, labels) at c.in_ok-warnings.ensures.ok)
    (rw (c.deref-7.ensures.value, c.deref-8.ensures.value) at c.choose.ensures) in
    record {
      needless = c.in_ok-needless.needless;
      needless_are = rw read.site_is at c.in_ok-needless.ensures.found;
      standard = rw c.requires.readings.standard at c.in_ok-needless.ensures.standard;
      unrequested = c.in_ok-needless.ensures.unrequested;
      too_large = λ large. c.in_ok-needless.ensures.too_large (read.size_is ∙ large);
      labels_are = labels;
      agents_are = rw (c.deref-3.ensures.value, names, c.deref-4.ensures.value) at c.in_ok-agents.ensures.ok;
      warnings_are = are;
      in_lines = in_lines;
      told = told;
      closed = closed;
      overruling = overruling;
      syntax_is = c.conformance_of.ensures;
    }
