use Rattle.std.proofs.Common.{rules}
use Rattle.robots_verdict.proofs.ending.exit_of.Goals as goal

pub returns-in-Err-clause-status : goal.returns-in-Err-clause-status
returns-in-Err-clause-status c = search rules
