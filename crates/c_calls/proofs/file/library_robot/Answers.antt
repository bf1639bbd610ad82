use Rattle.std.proofs.Common.{rules}
use Rattle.c_calls.specs.File.{bytes_read}
use Rattle.c_calls.proofs.NumberLemmas.{why_rejected}
use Rattle.c_calls.proofs.file.library_robot.Goals as goal

pub returns-in-Ok-clause-ok : goal.returns-in-Ok-clause-ok
returns-in-Ok-clause-ok c =
    let (is, utf8) = c.in_ok-agent.ensures.ok in
    (utf8, (search rules, _, rw (is, ← c.robot.view_is) at c.in-Ok.ensures.robot))

pub returns-in_err-robot_without_sitemaps-in-Err-InvalidRule-clause-error :
    goal.returns-in_err-robot_without_sitemaps-in-Err-InvalidRule-clause-error
returns-in_err-robot_without_sitemaps-in-Err-InvalidRule-clause-error c =
    let (is, utf8) = c.in_ok-agent.ensures.ok in
    let rejected = c.in_err-robot_without_sitemaps-in-Err-InvalidRule in
    let returned = c.from_residual-in_err-robot_without_sitemaps-in-Err-InvalidRule in
    why_rejected returned.result c.args.agent.now (bytes_read c.args.file.now) rejected.field-0.0
    returned.ensures.1 utf8
    (rw (is, c.in_ok-site-in-Err-InvalidRule.ensures) at rejected.ensures.rejected)
