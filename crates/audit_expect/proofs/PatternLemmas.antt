-- Expectations about all paths that a pattern matches.
use Rattle.std.proofs.Common.{◌≡◌, ◌∙◌, ap, ℕ, zero, suc, ◌<◌, Bool, true, false, List, [], ◌∷◌, ◌++◌}
use Rattle.std.proofs.Common.{Contains, append_assoc, arith, codes, drop, inl, inr, length, refl, subst}
use Rattle.std.proofs.Common.{sym, take}
use Rattle.std.specs.{List.list_all, List.repeat, Prelude.nat_lt}
use Rattle.std.proofs.lemmas.Bool.{false≢true, Decides.nat_tests}
use Rattle.std.proofs.lemmas.List.{map-append, Concat.flat_map-append, Sums.AllPass-from_list_all}
use Rattle.std.proofs.lemmas.List.Elements.{Contains-push, Contains-push_cases}
use Rattle.texting_robots.specs.Callers.{IsVerdict, Matches, PlacedRule, Rule, escaped, unplaced}
use Rattle.texting_robots.specs.Pattern.{MatchesWith, star}
use Rattle.robots_rules.specs.Same.{HaveSameVerdicts}
use Rattle.robots_rules.proofs.TogetherLemmas.{of_map}
use Rattle.safe_output.specs.{Bytes.before_byte}
use Rattle.audit_expect.specs.Patterns.{IsPathOf}

starred : (front back text : List ℕ) → Matches (front ++ back) text → Matches (front ++ star ∷ back) text
unfolding MatchesWith
starred [] back text is = (text, ([], refl), is)
starred (b ∷ front) back text (rest, consumed, is) = (rest, consumed, starred front back rest is)

more_stars : (number : ℕ) (front back text : List ℕ) → Matches (front ++ back) text
    → Matches (front ++ (repeat number (codes "*") ++ back)) text
more_stars zero front back text is = is
more_stars (suc number) front back text is =
    starred front (repeat number (codes "*") ++ back) text (more_stars number front back text is)

rejoined : (k : ℕ) (text : List ℕ) → take k text ++ drop (length (take k text)) text ≡ text
rejoined zero text = refl
rejoined (suc k) [] = refl
rejoined (suc k) (b ∷ text) = ap (λ (text : List ℕ). b ∷ text) (rejoined k text)

pub longer_matches : (number : ℕ) (pattern front longer : List ℕ) → front ≡ before_byte star pattern
    → longer ≡ ((escaped front ++ codes "*") ++ repeat number (codes "*"))
    ++ escaped (drop (length front) pattern)
    → (text : List ℕ) → Matches (escaped pattern) text → Matches longer text
longer_matches number pattern front longer first are text is =
    let rest = drop (length front) pattern in
    let stars = repeat (suc number) (codes "*") in
    let same : front ++ rest ≡ pattern = rw first (rejoined _ pattern) in
    let parts : escaped pattern ≡ escaped front ++ escaped rest = grind (arith, flat_map-append, same) in
    let whole : longer ≡ escaped front ++ (stars ++ escaped rest) = grind (arith, append_assoc, are) in
    rw whole (more_stars (suc number) (escaped front) (escaped rest) text (rw parts at is))

module _ (rules : List PlacedRule) (longer : PlacedRule) (pattern : List ℕ) (allowed : Bool)
    (more : (text : List ℕ) → Matches pattern text → Matches longer.rule.0 text)
    (shorter : list_all (λ (placed : PlacedRule). nat_lt (length placed.rule.0) (length longer.rule.0)) rules
    ≡ true) (kind : longer.rule.1 ≡ allowed) where
  abbrev all : List Rule
  all = unplaced rules ++ longer.rule ∷ []

  below : (rule : Rule) → Contains (unplaced rules) rule → length rule.0 < length longer.rule.0
  below rule listed =
      let (placed, (k, within, at), is) = of_map (λ (placed : PlacedRule). placed.rule) rules rule listed in
      let passes = AllPass-from_list_all
      (λ (placed : PlacedRule). nat_lt (length placed.rule.0) (length longer.rule.0)) rules shorter k placed
      within in
      grind (arith, nat_tests, passes, at, is)

  own : (kind : Bool) → longer.rule.1 ≡ kind → Contains all (longer.rule.0, kind)
  own kind is = subst (λ (kind : Bool). Contains all (longer.rule.0, kind)) is
      (Contains-push (unplaced rules) longer.rule)

  -- each other rule is shorter
  among : (rule : Rule) → Contains all rule → (rule.1 ≡ allowed → ⊥) → length rule.0 < length longer.rule.0
  among rule listed differs = elim (Contains-push_cases (unplaced rules) longer.rule rule listed) [
    | inl before ↦ below rule before
    | inr same ↦ absurd (differs (sym (ap (λ (rule : Rule). rule.1) same) ∙ kind))
  ]

  added : (verdict : Bool) → allowed ≡ verdict → (text : List ℕ) → IsPathOf pattern text
      → IsVerdict all text verdict
  added true is text path = λ denied.
      let (other, p, listed, matches, longest) = denied in
      absurd (omega (
        arith,
        longest longer.rule.0 (own true (kind ∙ is)) (more text path.matches),
        among (p, false) listed (λ same. false≢true (same ∙ is)),
      ))
  added false is text path = (
    path.other,
    longer.rule.0,
    own false (kind ∙ is),
    more text path.matches,
    λ q listed matches. among (q, true) listed (λ same. false≢true (sym (same ∙ is))),
  )

  pub all_hold : HaveSameVerdicts (codes "/") (unplaced rules) (unplaced (rules ++ longer ∷ []))
      → (text : List ℕ) → IsPathOf pattern text → IsVerdict (unplaced rules) text allowed
  all_hold same text path =
      let joined : unplaced (rules ++ longer ∷ []) ≡ all =
      map-append (λ (placed : PlacedRule). placed.rule) rules (longer ∷ []) in
      rw path.begins ((same path.rest allowed).1 (rw (joined, ← path.begins) (added allowed refl text path)))
