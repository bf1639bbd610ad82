use Rattle.std.proofs.Common.{rules}
use Rattle.audit_expect.specs.Internal.Expectations.{expectation_value}
use Rattle.audit_expect.proofs.ExpectationsLemmas.{decided_all}
use Rattle.audit_expect.proofs.checks.on_pattern.Goals as goal

pub returns : goal.returns
returns c = λ pattern are.
    decided_all c.args.file.now.here.bytes.now c.args.agent.now _ _ are
    (expectation_value c.args.expectation.now) _ pattern (λ holds. search rules)
