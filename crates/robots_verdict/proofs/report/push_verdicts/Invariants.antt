use Rattle.std.proofs.Common.{map, string_bytes, take}
use Rattle.robots_verdict.specs.Report.{AddsVerdicts}
use Rattle.robots_verdict.proofs.report.push_verdicts.Given as goal

abbrev pub invariant-loop-url : goal.invariant-loop-url
invariant-loop-url l = AddsVerdicts l.robot.rules (map (λ url. url.now) (take l.url-index l.urls))
    (string_bytes l.fn.text) (string_bytes l.text)
