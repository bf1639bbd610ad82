-- Theorems about warnings: what the conditions of some warnings imply for rules, names and URLs.
use Rattle.std.proofs.Common.{◌||◌, ◌==◌, arith, inl, inr, ◌≡◌, ◌<◌, ℕ, true, false}
use Rattle.std.proofs.Common.{List, [], ◌∷◌, not, subst, sym, ◌∙◌}
use Rattle.std.proofs.lemmas.Bool.{cases_Bool, eqb-true, false≢true}
use Rattle.std.specs.{List.list_all, List.list_any, Str.byte}
use Rattle.texting_robots.specs.Callers.{LineValue, Matches}
use Rattle.texting_robots.specs.Callers.{HasMembership, escaped}
use Rattle.texting_robots.specs.Group.{is_agent, passes_at}
use Rattle.texting_robots.specs.Pattern.{MatchesWith, dollar, star}
use Rattle.texting_robots.specs.declared.labels.Membership.{Membership}
use Rattle.texting_robots.specs.Internal.Segments.{is_wildcard}
use Rattle.robots_warnings.specs.{Closed.matches_no_path, Rules.begins_oddly, Rules.has_dollar_inside}
use Rattle.robots_warnings.specs.{Positions.is_outside}
use Rattle.texting_robots.proofs.Shared.{some_passes, only_wildcards_match}
use Rattle.rfc9309.proofs.HasFormLemmas.{next_place}

pub below_agent : (name : List ℕ) (lines : List LineValue) (place : ℕ) (membership : Membership)
    → HasMembership name lines place membership → is_outside membership ≡ false
    → passes_at is_agent lines place ≡ false → list_any is_agent lines ≡ true
    → (j : ℕ) × (j < place) × (passes_at is_agent lines j ≡ true)
below_agent name lines place membership is outside isnt some = grind (arith, some_passes)

other_bytes : (value : List ℕ) → list_any (λ b. not (b == star || b == dollar)) value ≡ true
    → list_all is_wildcard (escaped value) ≡ false
other_bytes [] some = cc
other_bytes (b ∷ value) some = grind (arith, other_bytes value)

pub dollar_inside_matches_nothing : (value text : List ℕ) → has_dollar_inside value ≡ true
    → ¬ Matches (escaped value) text
unfolding MatchesWith
dollar_inside_matches_nothing [] text inside m = cc
dollar_inside_matches_nothing (b ∷ value) text inside m = elim (cases_Bool (b == dollar)) [
  | inl is ↦
      let (s, (end, gone), later) =
      subst (λ b. Matches (escaped (b ∷ value)) text) (eqb-true b dollar is) m in
      false≢true (sym (other_bytes value (rw is at inside))
      ∙ (only_wildcards_match (escaped value)).1 (subst (Matches (escaped value)) gone later))
  | inr other ↦
      (grind (arith, next_place dollar, dollar_inside_matches_nothing value))
]

other_than_wildcards : (pattern : List ℕ)
    → list_any (λ b. not (b == star || b == dollar)) pattern ≡ true → list_all is_wildcard pattern ≡ false
other_than_wildcards [] some = cc
other_than_wildcards (b ∷ pattern) some = grind (arith, other_than_wildcards pattern)

inside_matches_nothing : (pattern text : List ℕ) → has_dollar_inside pattern ≡ true → ¬ Matches pattern text
unfolding MatchesWith
inside_matches_nothing [] text inside m = cc
inside_matches_nothing (b ∷ pattern) text inside m = elim (cases_Bool (b == dollar)) [
  | inl is ↦
      let (s, (end, gone), later) =
      subst (λ b. Matches (b ∷ pattern) text) (eqb-true b dollar is) m in
      false≢true (sym (other_than_wildcards pattern (rw is at inside))
      ∙ (only_wildcards_match pattern).1 (subst (Matches pattern) gone later))
  | inr other ↦
      (grind (arith, next_place dollar, inside_matches_nothing pattern))
]

odd_matches_nothing : (pattern text : List ℕ) → begins_oddly pattern ≡ true
    → ¬ Matches pattern (byte "/" ∷ text)
unfolding MatchesWith
odd_matches_nothing pattern text h = grind arith

pub without_path : (pattern text : List ℕ) → matches_no_path pattern ≡ true
    → ¬ Matches pattern (byte "/" ∷ text)
without_path pattern text none m = grind (arith, odd_matches_nothing, inside_matches_nothing)
