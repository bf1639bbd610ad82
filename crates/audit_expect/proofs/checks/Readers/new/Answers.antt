use Rattle.std.proofs.Common.{◌∙◌, sym}
use Rattle.audit_expect.proofs.checks.Readers.new.Goals as goal

pub returns-clause-readers : goal.returns-clause-readers
returns-clause-readers c = record {
  here = rw c.requires.here.site_is at c.in_ok-here.ensures.ok;
  agent_is = c.in_ok-standard.ensures.agent ∙ sym c.in_ok-here.ensures.agent;
  in_text = rw (c.text_site.ensures, c.requires.standard) at c.in_ok-standard.ensures.ok;
}
