-- Expectations: how they are checked.
use Rattle.std.proofs.Common.{◌≡◌, ℕ, ◌==◌, Bool, true, false, List, [], ◌∷◌, Some, arith}
use Rattle.std.proofs.Common.{◌∙◌, ap, length, map, not, refl, subst, sym, take}
use Rattle.std.specs.{Borrow.Bor}
use Rattle.std.proofs.lemmas.Bool.{false≢true, not-false, or_parts}
use Rattle.std.proofs.lemmas.Bool.Decides.{nat_tests}
use Rattle.texting_robots.specs.Callers.{IsVerdict, RobotValue, file_limit, unplaced}
use Rattle.texting_robots.specs.{Decision.IsDecisionOn, declared.decision.Decision.Decision}
use Rattle.rfc9309.specs.{Matching.all_stay, Matching.normal_uri, StandardTarget.written_target}
use Rattle.rfc9309.proofs.StandardLemmas.{text_verdict}
use Rattle.robots_warnings.specs.{Crawlers.Row, Internal.row_value}
use Rattle.audit_core.specs.{Target.asked_target}
use Rattle.audit_expect.specs.Expectations.{AreDecidedInBoth, HoldsFor, HoldsIn, IsAskedAsWritten}
use Rattle.audit_expect.specs.{Expect.ExpectationValue}
use Rattle.audit_expect.specs.Internal.Expectations.{AreRobots, IsJudgmentOn, holds, is_unexpected}
use Rattle.audit_expect.specs.declared.checks.Judgment.TheVariants.{Decided, Everywhere}
use Rattle.audit_expect.specs.declared.checks.OnPaths.{OnPaths}

expected : (allowed : Bool) (decision : Decision) → is_unexpected allowed decision ≡ false
    → decision.allowed ≡ allowed
expected true decision is = not-false _ is
expected false decision is = is

module _ (file agent : List ℕ) (robot standard : RobotValue)
    (are : AreRobots file agent robot standard) where
  pub decided_all : (one : ExpectationValue) (found : OnPaths) → one.is_pattern ≡ true
      → (holds found ≡ true → AreDecidedInBoth file agent one)
      → IsJudgmentOn file agent one (Everywhere found)
  decided_all one found pattern decided passes = record {
    accepted = are.here.0;
    standard = are.in_text.0;
    url = λ plain. absurd (false≢true (sym plain ∙ pattern));
    pattern = λ _. decided (not-false _ passes);
  }

  pub decided_as : (one : ExpectationValue) (here other : Decision) → one.is_pattern ≡ false
      → IsAskedAsWritten one.url → IsDecisionOn robot.rules (asked_target one.url) here
      → IsDecisionOn standard.rules (normal_uri all_stay (written_target one.url)) other
      → IsJudgmentOn file agent one (Decided here other)
  decided_as one here other plain written by_here by_standard passes =
      let (first, second) = or_parts _ _ passes in
      record {
        accepted = are.here.0;
        standard = are.in_text.0;
        url = λ _. record {
          written = written;
          here = (are.here.1.verdicts (asked_target one.url) one.allowed).0
              (subst (IsVerdict (unplaced robot.rules) (asked_target one.url))
              (expected one.allowed here first) by_here.verdict);
          standard =
              let target = normal_uri all_stay (written_target one.url) in
              (text_verdict agent (take file_limit file) (written_target one.url) one.allowed).0
              ((are.in_text.1.verdicts target one.allowed).0
              (subst (IsVerdict (unplaced standard.rules) target) (expected one.allowed other second)
              by_standard.verdict));
        };
        pattern = λ pattern. absurd (false≢true (sym plain ∙ pattern));
      }

-- ---- Groups of vendors; none if the name is empty.

pub nobody : (file : List ℕ) (one : ExpectationValue) (name : List ℕ) → (length name == 0) ≡ true
    → not one.allowed ≡ false → HoldsIn file one (Some name)
nobody file one [] none passes = not-false _ passes
nobody file one (b ∷ name) none passes = grind (arith, nat_tests)

pub somebody : (file : List ℕ) (one : ExpectationValue) (name : List ℕ) → (length name == 0) ≡ false
    → HoldsFor file name one → HoldsIn file one (Some name)
somebody file one [] some holds = cc
somebody file one (b ∷ name) some holds = holds

pub names_known : (rows : List (Bor (List ℕ) × Bor (List ℕ)))
    → map (λ (row : Bor (List ℕ) × Bor (List ℕ)). row.0.now) rows
    ≡ map (λ (row : Row). row.0) (map row_value rows)
names_known [] = refl
names_known (row ∷ rows) = ap (λ (names : List (List ℕ)). row.0.now ∷ names) (names_known rows)
