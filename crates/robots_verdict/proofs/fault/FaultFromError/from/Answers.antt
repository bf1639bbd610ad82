use Rattle.std.proofs.Common.{rules}
use Rattle.robots_verdict.proofs.fault.FaultFromError.from.Goals as goal

pub returns-in-InvalidRule : goal.returns-in-InvalidRule
returns-in-InvalidRule c = search rules
