-- What a crawler may fetch.
use Rattle.std.proofs.Common.{◌≡◌, ℕ, ◌<◌, ◌==◌, ◌&&◌, ◌||◌, Bool, true, false, List, [], ◌∷◌}
use Rattle.std.proofs.Common.{◌++◌, Contains, append-nil, arith, codes, filter, if◌then◌else◌, length}
use Rattle.std.proofs.Common.{map, refl, subst, sym, inl, inr, ◌≢◌}
use Rattle.std.proofs.lemmas.Bool.{and_parts, cases_Bool, eqb-true, not-true}
use Rattle.std.proofs.lemmas.List.Folds.{Any-from_list_any, list_all_at, list_any_at}
use Rattle.std.specs.{List.list_all, List.list_any, Str.byte}
use Rattle.texting_robots.specs.Callers.{IsDenied, Matches, PlacedRule, robots_file, unplaced}
use Rattle.texting_robots.specs.{Pattern.MatchesWith}
use Rattle.texting_robots.proofs.Shared.{matches, matches_decides, placed_of}
use Rattle.robots_rules.specs.Same.{HaveSameVerdicts}
use Rattle.robots_rules.proofs.TogetherLemmas.{to_filter, to_map, unplaced_of}
use Rattle.robots_warnings.specs.Closed.{are_signs, is_anything, is_root, is_star_or_dollar}
use Rattle.robots_warnings.specs.Closed.{is_whole_site, without_stars}
use Rattle.audit_core.specs.Reach.{IsOpened, IsReach, is_allow, is_closing, is_long_allow, plain_rules}
use Rattle.audit_core.specs.declared.reach.Reach.TheVariants.{Everything, Listed, Nothing}

-- ---- A pattern of the whole site.

stars_match : (pattern : List ℕ) → list_all is_star_or_dollar pattern ≡ true → Matches pattern []
unfolding MatchesWith
stars_match [] stars = tt
stars_match (b ∷ pattern) stars = grind (arith, stars_match pattern)

anything_matches : (pattern text : List ℕ) → is_anything pattern ≡ true → Matches pattern text
unfolding MatchesWith
anything_matches [] text is = cc
anything_matches (b ∷ pattern) text is =
    let (first, stars) = and_parts (b == byte "*") _ is in
    subst (λ b. Matches (b ∷ pattern) text) (sym (eqb-true b (byte "*") first))
    ([], (text, sym (append-nil text)), stars_match pattern stars)

rest_matches : (pattern text : List ℕ) → (length pattern == 0 || is_anything pattern) ≡ true
    → Matches pattern text
unfolding MatchesWith
rest_matches pattern text rest = grind (arith, anything_matches)

root_matches : (pattern text : List ℕ) → is_root pattern ≡ true → Matches pattern (byte "/" ∷ text)
unfolding MatchesWith
root_matches [] text root = cc
root_matches (b ∷ pattern) text root =
    let (is, rest) = and_parts (b == byte "/") _ root in
    subst (λ b. Matches (b ∷ pattern) (byte "/" ∷ text)) (sym (eqb-true b (byte "/") is))
    (text, refl, rest_matches pattern text rest)

stars_match_before : (pattern text : List ℕ) → Matches (without_stars pattern) text → Matches pattern text
unfolding MatchesWith
stars_match_before [] text rest = rest
stars_match_before (b ∷ pattern) text rest = grind (arith, stars_match_before pattern text)

pub whole_site_matches : (pattern text : List ℕ) → is_whole_site pattern ≡ true
    → Matches pattern (byte "/" ∷ text)
whole_site_matches pattern text whole =
    let (signs, is) = and_parts (are_signs pattern) _ whole in
    grind (arith, anything_matches, stars_match_before, root_matches)

-- ---- What a list of rules lets a crawler fetch.

pub fetches_everything : (rules : List PlacedRule) (lines : List ℕ) → list_all is_allow rules ≡ true
    → IsReach rules Everything lines
fetches_everything rules lines all rest (differs, pattern, has, matches, longest) =
    let (denies, (k, below, at), same) = placed_of rules (pattern, false) has in
    grind (arith, list_all_at)

abbrev pub line_of : PlacedRule → ℕ
line_of placed = placed.line

no_line : (lines : List ℕ) {n : ℕ} → lines ≡ [] → Contains lines n → ⊥
no_line [] none (k, below, at) = absurd (omega arith)
no_line (line ∷ lines) none has = absurd (cc)

-- what a Disallow of the whole site leaves of a path
module _ (rules : List PlacedRule) (closing : PlacedRule) (listed : Contains rules closing)
    (closes : is_closing closing ≡ true) (rest : List ℕ) where
  abbrev opens : PlacedRule → Bool
  opens placed =
      is_long_allow (length closing.rule.0) placed && matches true placed.rule.0 (codes "/" ++ rest)

  shorter : (allow : PlacedRule) → opens allow ≡ false → allow.rule.1 ≡ true
      → Matches allow.rule.0 (codes "/" ++ rest) → length allow.rule.0 < length closing.rule.0
  shorter allow isnt allows same = grind (arith, matches_decides)

  denied : list_any opens rules ≡ false → codes "/" ++ rest ≢ robots_file
      → IsDenied (unplaced rules) (codes "/" ++ rest)
  denied none differs =
      let (denies, whole) = and_parts _ _ closes in (
        differs,
        closing.rule.0,
        subst (λ (b : Bool). Contains (unplaced rules) (closing.rule.0, b)) (not-true _ denies)
            (unplaced_of rules closing listed),
        whole_site_matches closing.rule.0 rest whole,
        λ pattern has same.
            let (allow, (k, below, at), is) = placed_of rules (pattern, true) has in
            grind (arith, list_any_at, shorter),
      )

  opened : (lines : List ℕ) → lines ≡ map line_of (filter (is_long_allow (length closing.rule.0)) rules)
      → list_any opens rules ≡ true → IsOpened rules lines (codes "/" ++ rest)
  opened lines are some =
      let (k, allow, below, at, both) = Any-from_list_any opens rules some in
      let (long, same) = and_parts _ _ both in record {
        allow = allow;
        listed = (k, below, at);
        allows = (and_parts _ _ long).0;
        matches = (matches_decides true allow.rule.0 (codes "/" ++ rest)).0 same;
        in_line = rw are
            (to_map line_of _ allow (to_filter (is_long_allow _) rules allow (k, below, at) long));
      }

module _ (rules : List PlacedRule) (closing : PlacedRule) (lines : List ℕ) (listed : Contains rules closing)
    (closes : is_closing closing ≡ true)
    (are : lines ≡ map line_of (filter (is_long_allow (length closing.rule.0)) rules)) where
  pub fetches_listed : IsReach rules Listed lines
  fetches_listed rest differs allowed =
      elim (cases_Bool (list_any (opens rules closing listed closes rest) rules)) [
        | inl some ↦ opened rules closing listed closes rest lines are some
        | inr none ↦ absurd (allowed (denied rules closing listed closes rest none differs))
      ]

  pub fetches_nothing : lines ≡ [] → IsReach rules Nothing lines
  fetches_nothing none rest differs =
      elim (cases_Bool (list_any (opens rules closing listed closes rest) rules)) [
        | inl some ↦ absurd (no_line lines none
            (opened rules closing listed closes rest lines are some).in_line)
        | inr none ↦ denied rules closing listed closes rest none differs
      ]

-- ---- Rules that have the verdicts of one Disallow of `/`, or of no rule.

abbrev plain_closing : PlacedRule
plain_closing = record { rule = (codes "/", false); line = 0 }

pub like_plain : (is_open : Bool) (rules others : List PlacedRule) → others ≡ plain_rules is_open
    → HaveSameVerdicts (codes "/") (unplaced rules) (unplaced others)
    → IsReach rules (if is_open then Everything else Nothing) []
like_plain true rules others are same = λ rest.
    (same rest true).1 (rw are (fetches_everything [] [] refl rest))
like_plain false rules others are same = λ rest differs.
    (same rest false).1
    (rw are (fetches_nothing (plain_rules false) plain_closing [] (0, omega arith, refl) refl refl refl rest
    differs))
