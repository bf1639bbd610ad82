use Rattle.std.proofs.Common.{◌≡◌, ℕ, All, List, Option, rules, subst}
use Rattle.std.proofs.lemmas.List.{take_all, Elements.All-map, Elements.All-more}
use Rattle.audit_expect.specs.{Expect.ExpectationValue, Expectations.Holds, Expectations.HoldsIn}
use Rattle.audit_expect.specs.Internal.Expectations.{expectation_value}
use Rattle.audit_expect.specs.declared.expect.Expectation.{Expectation}
use Rattle.audit_expect.proofs.expectations.failures.Goals as goal

held : (file : List ℕ) (one : ExpectationValue) (group other : Option (List ℕ)) → group ≡ other
    → HoldsIn file one group → HoldsIn file one other
held file one group other same holds = subst (HoldsIn file one) same holds

pub loop-expectation-preserved : goal.loop-expectation-preserved
loop-expectation-preserved c =
    let file = c.args.file.now.here.bytes.now in
    let group = rw c.requires.here.site_is at c.other_group-group.ensures in
    record {
      latest = c.in_ok-latest-2.ensures.readers;
      hold = λ none.
          let (before, passes) = c.in_ok-add_if_failing.ensures none in
          All-more (λ (one : Expectation). Holds file (expectation_value one)) _ _ _
          c.loop-expectation-test.true (c.loop-expectation.invariant.hold before)
          (held file _ _ _ group (c.in_ok-checked.ensures passes));
    }

pub returns : goal.returns
returns c = λ none.
    let file = c.args.file.now.here.bytes.now in
    All-map (Holds file) expectation_value c.args.expectations.now
    (subst (All (λ (one : Expectation). Holds file (expectation_value one)))
    (take_all c.loop-expectation.expectation-index c.args.expectations.now (search rules))
    (c.loop-expectation.invariant.hold none))
