use Rattle.audit_reports.proofs.MessageLemmas.{literal_shown}
use Rattle.audit_reports.proofs.theorems.no_text_becomes_a_link.Goals as goal

pub returns : goal.returns
returns c = literal_shown
