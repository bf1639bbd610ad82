use Rattle.std.proofs.Common.{◌≡◌, ◌∙◌, ap, length, refl, rules, vec_len}
use Rattle.texting_robots.specs.Callers.{file_lines, lines_read}
use Rattle.audit_core.specs.{Audit.group_of, Audit.naming_line, Standard.text_lines}
use Rattle.audit_core.proofs.AuditLemmas.{delay_read, labeled_lines, read_alike, rejection_is, ruling_made}
use Rattle.audit_core.proofs.audit.audit_in_both.Goals as goal

pub naming_line-requires : goal.naming_line-requires
naming_line-requires c = labeled_lines _ _ c.requires.readings.here c.deref.ensures.value

pub returns-clause-ok : goal.returns-clause-ok
returns-clause-ok c =
    let agent = c.args.crawler.now.agent.now in
    let file = c.args.readings.now.here.bytes.now in
    let site = c.requires.readings.here.site_is in
    let here = c.requires.crawler in
    let placed = rw c.requires.agent at c.requires.standard.rules_are in
    let reading = rw c.requires.agent at c.requires.standard.reading_is in
    let items = c.args.crawler.now.rules in
    let size : vec_len items ≡ length items.items = search rules in
    let audit = c.in_ok-standard_audit.ensures in
    record {
      agent_is = refl;
      asked_is = refl;
      group_is = c.group_of.ensures ∙ ap (λ text. group_of agent (file_lines text)) site;
      line_is = c.naming_line.ensures ∙ ap (λ text. naming_line agent (file_lines text)) site;
      rules_are = c.len.ensures ∙ size ∙ ap length here.rules_are;
      reach_is = rw here.rules_are at c.in_ok-reach.ensures.reach;
      vendor_is = rw site at c.at_vendor-vendor.ensures;
      reach_elsewhere = c.in_ok-reach.ensures.own;
      ignored_by_is = rw site at c.in_ok-ignored_by.ensures;
      delay_is = delay_read agent file _ (rw site at c.delay.ensures);
      rejected_is = rw c.rejected_line.ensures (rejection_is agent (lines_read file) _ here.reading_is);
      standard_is = record {
        rejected = rw audit.rejected (rejection_is agent (text_lines file) _ reading);
        reach = rw placed at audit.reach;
        alike = λ yes. read_alike file agent (rw (here.rules_are, placed) at (audit.alike yes));
      };
      ruling = rw (c.rejected_line.ensures, audit.rejected)
          (ruling_made agent (lines_read file) (text_lines file) _ _ here.reading_is reading _ _
          c.in_ok-verdicts_by.ensures.ok);
    }
