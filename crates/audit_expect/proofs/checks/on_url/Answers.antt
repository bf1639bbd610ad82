use Rattle.std.proofs.Common.{rules}
use Rattle.audit_expect.proofs.ExpectationsLemmas.{decided_as}
use Rattle.audit_expect.proofs.checks.on_url.Goals as goal

pub returns : goal.returns
returns c = λ file agent one same plain are.
    decided_as file agent c.args.robot.now c.args.standard.now are one c.in_ok-here.here
    c.in_ok-standard.standard plain (search rules) (search rules) (rw same c.in_ok-standard.ensures)
