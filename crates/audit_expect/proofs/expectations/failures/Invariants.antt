use Rattle.std.proofs.Common.{◌≡◌, All, length, take}
use Rattle.audit_expect.specs.Expectations.{Holds}
use Rattle.audit_expect.specs.Internal.Expectations.{IsInBoth, expectation_value}
use Rattle.audit_expect.specs.declared.expect.Expectation.{Expectation}
use Rattle.audit_expect.proofs.expectations.failures.Given as goal

abbrev pub invariant-loop-expectation : goal.invariant-loop-expectation
invariant-loop-expectation l =
    let file = l.file.here.bytes.now in
    record {
      latest : IsInBoth file l.latest;
      hold : length l.found.items ≡ 0
          → All (λ (one : Expectation). Holds file (expectation_value one))
          (take l.expectation-index l.expectations);
    }
