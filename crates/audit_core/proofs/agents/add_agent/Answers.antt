use Rattle.std.proofs.Common.{◌∙◌, sym}
use Rattle.std.proofs.lemmas.Result.{on_ok_weaker}
use Rattle.audit_core.proofs.AuditLemmas.{agent_added}
use Rattle.audit_core.proofs.agents.add_agent.Goals as goal

pub returns-in_ok-add_name-in-Some : goal.returns-in_ok-add_name-in-Some
returns-in_ok-add_name-in-Some c =
    let (utf8, same) = c.in-Some.ensures in
    let can = rw same at (sym c.is_crawler_name.ensures ∙ c.if-is_crawler_name.true) in
    rw c.in-UserAgent.is (on_ok_weaker c.add_if.result
    (agent_added utf8 can c.in_ok-add_name-in-Some.ensures) (rw same at c.add_if.ensures))
