use Rattle.texting_robots.specs.Callers.{lines_read}
use Rattle.audit_core.specs.Standard.{text_lines}
use Rattle.audit_core.proofs.AuditLemmas.{same_crawler}
use Rattle.audit_core.proofs.audit.audit_for.Goals as goal

pub audit_in_both-requires-in-None-clause-standard : goal.audit_in_both-requires-in-None-clause-standard
audit_in_both-requires-in-None-clause-standard c =
    let file = c.args.readings.now.here.bytes.now in
    let same = rw (c.in-None.is, c.text_site.ensures, c.requires.readings.standard) at
    c.in_ok-other.ensures.ok in
    same_crawler c.args.crawler.now (lines_read file) (text_lines file) same c.requires.crawler
