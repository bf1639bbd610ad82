use Rattle.std.proofs.Common.{arith}
use Rattle.robots_verdict.proofs.VerdictsLemmas.{adds_one}
use Rattle.robots_verdict.proofs.report.push_verdict.Goals as goal

pub returns-clause-ok : goal.returns-clause-ok
returns-clause-ok c = grind (arith, adds_one)
