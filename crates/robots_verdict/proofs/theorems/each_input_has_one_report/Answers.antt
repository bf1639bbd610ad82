use Rattle.robots_verdict.proofs.ReportLemmas.{one_report}
use Rattle.robots_verdict.proofs.theorems.each_input_has_one_report.Goals as goal

pub returns : goal.returns
returns c = one_report
