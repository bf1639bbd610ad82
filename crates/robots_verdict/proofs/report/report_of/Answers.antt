use Rattle.std.proofs.Common.{arith, ◌≡◌, ◌++◌, ◌∷◌, [], inr, map, refl, string_bytes, take}
use Rattle.texting_robots.specs.Robot.{file_limit}
use Rattle.texting_robots.proofs.Shared.{not_rejected, read_robot}
use Rattle.safe_output.specs.Lines.{ended}
use Rattle.robots_verdict.specs.{Report.delay_line, Report.sitemap_line, Internal.value_of}
use Rattle.robots_verdict.proofs.{InputLemmas.some_input, ReportLemmas.text_made}
use Rattle.robots_verdict.proofs.report.report_of.Goals as goal

pub returns-clause-ok : goal.returns-clause-ok
returns-clause-ok c =
    let header = c.in_ok-header.header in
    let robot = c.in_ok-robot.robot in
    let delayed : string_bytes c.push_delay.new.text ≡ ended (delay_line robot.delay ∷ []) =
    grind arith in
    let listed : string_bytes c.push_sitemaps.new.text
    ≡ string_bytes c.push_delay.new.text ++ ended (map sitemap_line robot.sitemaps) =
    grind arith in
    let is = read_robot header.agent.now header.file.now robot c.in_ok-robot.ensures.robot in
    let judged = rw c.deref-2.ensures.value at c.in_ok-push_verdicts.ensures.ok in
    rw (c.in_ok-header.ensures.input, c.in_ok-header.ensures.texts) (inr (
      not_rejected header.agent.now (take file_limit header.file.now) robot c.in_ok-robot.ensures.robot,
      string_bytes c.push_verdicts.new.text,
      text_made (value_of header) _ _ _ robot is delayed listed judged,
      refl,
    ))

pub returns-in_err-robot-clause-fault : goal.returns-in_err-robot-clause-fault
returns-in_err-robot-clause-fault c = grind arith

pub returns-in_err-push_delay-clause-memory : goal.returns-in_err-push_delay-clause-memory
returns-in_err-push_delay-clause-memory c =
    some_input c.from_residual-in_err-push_delay.result _ c.in_ok-header.ensures.input

pub returns-in_err-push_sitemaps-clause-memory : goal.returns-in_err-push_sitemaps-clause-memory
returns-in_err-push_sitemaps-clause-memory c =
    some_input c.from_residual-in_err-push_sitemaps.result _ c.in_ok-header.ensures.input

pub returns-in_err-push_verdicts-clause-memory : goal.returns-in_err-push_verdicts-clause-memory
returns-in_err-push_verdicts-clause-memory c =
    some_input c.from_residual-in_err-push_verdicts.result _ c.in_ok-header.ensures.input
