use Rattle.std.proofs.Common.{map}
use Rattle.texting_robots.specs.Callers.{label_by_value}
use Rattle.audit_core.proofs.AddedLemmas.{all_found, more_none}
use Rattle.audit_core.proofs.audit.all_warnings.Goals as goal

pub returns-clause-ok : goal.returns-clause-ok
returns-clause-ok c =
    let read = c.args.readings.now.here in
    let names = map (λ name. name.now) c.args.names.now in
    let urls = map (λ url. url.now) c.deref.result.now in
    let labels = map label_by_value read.labels.items in
    let site = c.requires.here.site_is in
    let closed = rw site at c.in_ok-found.ensures.closed in
    let overruling = rw site at c.in_ok-found.ensures.overruling in
    let added =
    more_none (more_none c.in_ok-add_needless.ensures c.in_ok-warn_of_sitemaps.ensures.ok)
    c.in_ok-warn_of_readings.ensures in
    let found = all_found names urls read.bytes.now labels c.in_ok-found.ensures.so
    c.in_ok-found.ensures.given closed overruling added in rw c.deref.ensures.value at found
