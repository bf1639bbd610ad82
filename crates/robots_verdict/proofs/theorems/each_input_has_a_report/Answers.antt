use Rattle.robots_verdict.proofs.ReportLemmas.{some_report}
use Rattle.robots_verdict.proofs.theorems.each_input_has_a_report.Goals as goal

pub returns : goal.returns
returns c = some_report
