use Rattle.std.proofs.Common.{◌≡◌, ◌∙◌, ℕ, Bool, List, Option, Some, None, [], ◌∷◌, sym, take}
use Rattle.texting_robots.specs.Callers.{file_limit, file_lines, lines_read, rules_for}
use Rattle.texting_robots.proofs.Shared.{verdict_unique}
use Rattle.rfc9309.specs.StandardReading.{standard_text}
use Rattle.rfc9309.specs.{Matching.all_stay, Matching.normal_uri, StandardTarget.written_target}
use Rattle.rfc9309.proofs.StandardLemmas.{text_verdict}
use Rattle.robots_warnings.specs.Crawlers.{other_group}
use Rattle.audit_expect.specs.{Expect.ExpectationValue, Expectations.HoldsFor, Expectations.HoldsIn}
use Rattle.audit_expect.proofs.theorems.no_opposite_expectations_hold.Goals as goal

module _ (file : List ℕ) (one other : ExpectationValue) (plain : one.is_pattern ≡ Bool.false)
    (both : other.is_pattern ≡ Bool.false)
    (same : normal_uri all_stay (written_target one.url)
    ≡ normal_uri all_stay (written_target other.url)) where
  for_both : (agent : List ℕ) → HoldsFor file agent one → HoldsFor file agent other
      → one.allowed ≡ other.allowed
  for_both agent is also =
      let text = take file_limit file in
      verdict_unique (rules_for agent (file_lines (standard_text text)))
      (normal_uri all_stay (written_target one.url)) one.allowed other.allowed
      ((text_verdict agent text (written_target one.url) one.allowed).1 (is.url plain).standard)
      (rw same ((text_verdict agent text (written_target other.url) other.allowed).1 (also.url both).standard))

  in_group : (group : Option (List ℕ)) → one.agent ≡ other.agent → HoldsIn file one group
      → HoldsIn file other group → one.allowed ≡ other.allowed
  in_group None agent is also = for_both one.agent is (rw agent also)
  in_group (Some []) agent is also = is ∙ sym also
  in_group (Some (b ∷ name)) agent is also = for_both (b ∷ name) is also

pub returns : goal.returns
returns c file one other is also plain both agent target =
    in_group file one other plain both target (other_group (lines_read file) one.agent) agent is
    (rw agent also)
