use Rattle.std.proofs.Common.{refl}
use Rattle.audit_expect.proofs.checks.judgment_on.Goals as goal

pub returns-then-expectation : goal.returns-then-expectation
returns-then-expectation c =
    let readers = c.requires.readers in
    c.in_ok-on_pattern-in-Accepted-Accepted.ensures c.if-expectation.true (record {
      here = rw c.in-Accepted-Accepted.is-0 at readers.here.reading_is;
      in_text = rw (c.in-Accepted-Accepted.is-1, readers.agent_is) at readers.in_text.reading_is;
    })

pub returns-in_ok-on_url-in-Accepted-Accepted : goal.returns-in_ok-on_url-in-Accepted-Accepted
returns-in_ok-on_url-in-Accepted-Accepted c =
    let readers = c.requires.readers in
    c.in_ok-on_url-in-Accepted-Accepted.ensures _ _ _ refl c.if-expectation.false (record {
      here = rw c.in-Accepted-Accepted.is-0 at readers.here.reading_is;
      in_text = rw (c.in-Accepted-Accepted.is-1, readers.agent_is) at readers.in_text.reading_is;
    })
