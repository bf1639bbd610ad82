-- Collapsing a pattern.
use Rattle.std.proofs.Common.{ℕ, Bool, true, false, ◌==◌, ◌&&◌, List, get_or, arith, append_assoc, append-nil}
use Rattle.std.proofs.Common.{◌≡◌, ◌≢◌, ◌↔◌, suc, ◌<◌, ◌≤◌, eqb, inl, inr, [], ◌∷◌, ◌++◌, refl, ap, length}
use Rattle.std.{proofs.Math.Bool.and-true, proofs.lemmas.Cmp.nat_eq_equiv, specs.List.starts_with}
use Rattle.std.proofs.lemmas.Bool.{and_parts, cases_Bool, eq-eqb, eqb-true, ne_eqb}
use Rattle.texting_robots.specs.Pattern.{MatchesWith, collapsed, star}
use Rattle.texting_robots.proofs.SegmentLemmas.{after_byte, star_star}

collapse_plain : (w q : List ℕ) → ((i : ℕ) → i < length w → get_or w i 0 ≢ star)
    → collapsed (w ++ q) ≡ w ++ collapsed q
unfolding collapsed
collapse_plain [] q plain = refl
collapse_plain (b ∷ w) q plain =
    let other : (b == star) ≡ false = ne_eqb b star (plain 0 (omega arith)) in
    rw other (ap (λ x. b ∷ x) (collapse_plain w q (λ i l. plain (suc i) (omega arith))))

collapse_one : (q : List ℕ) → get_or q 0 0 ≢ star → collapsed (star ∷ q) ≡ star ∷ collapsed q
unfolding collapsed
collapse_one q other = rw (ne_eqb (get_or q 0 0) star other) refl

collapse_two : (q : List ℕ) → get_or q 0 0 ≡ star → collapsed (star ∷ q) ≡ collapsed q
unfolding collapsed
collapse_two q two = rw (eq-eqb (get_or q 0 0) star two) refl

-- the steps of a loop over the stars
module _ (done before after rest : List ℕ) (split : rest ≡ before ++ (star ∷ after))
    (plain : (i : ℕ) → i < length before → get_or before i 0 ≢ star) where
  begin : collapsed rest ≡ before ++ collapsed (star ∷ after)
  begin = grind (arith, collapse_plain)

  pub star_stays : get_or after 0 0 ≢ star
      → ((done ++ before) ++ star ∷ []) ++ collapsed after ≡ done ++ collapsed rest
  star_stays other = rw (begin, collapse_one after other) (simp append_assoc)

  pub star_goes : get_or after 0 0 ≡ star → (done ++ before) ++ collapsed after ≡ done ++ collapsed rest
  star_goes two = rw (begin, collapse_two after two) (simp append_assoc)

pub collapse_end : (rest : List ℕ) → ((i : ℕ) → i < length rest → get_or rest i 0 ≢ star)
    → collapsed rest ≡ rest
unfolding collapsed
collapse_end rest plain = cc (append-nil rest, collapse_plain rest [] plain)

pub collapse_keeps_meaning : (anchors : Bool) (p t : List ℕ)
    → MatchesWith anchors (collapsed p) t ↔ MatchesWith anchors p t
unfolding collapsed
collapse_keeps_meaning anchors [] t = (λ m. m, λ m. m)
collapse_keeps_meaning anchors (b ∷ q) t = elim (cases_Bool ((b == star) && (get_or q 0 0 == star))) [
  | inl two ↦
      let (first, second) = and_parts (b == star) (get_or q 0 0 == star) two in
      let rest = collapse_keeps_meaning anchors q t in
      let one = star_star anchors q t second in
      rw (two, eqb-true b star first) (λ m. one.1 (rest.0 m), λ m. rest.1 (one.0 m))
  | inr other ↦ rw other (after_byte anchors b (collapsed q) q (collapse_keeps_meaning anchors q) t)
]

pub length_none : (q : List ℕ) → length q ≡ 0 → length (collapsed q) ≡ 0
unfolding collapsed
length_none [] none = refl
length_none (b ∷ q) none = absurd (omega (arith, none))

module _ (b : ℕ) (q : List ℕ) where
  pub length_merged : b ≡ star → (get_or q 0 0 == star) ≡ true
      → length (collapsed (b ∷ q)) ≡ length (collapsed q)
  unfolding collapsed
  length_merged is two = rw (eq-eqb b star is, two) refl

  pub length_plain : b ≢ star → length (collapsed (b ∷ q)) ≡ suc (length (collapsed q))
  unfolding collapsed
  length_plain plain = rw (ne_eqb b star plain) refl

  pub length_last : (get_or q 0 0 == star) ≡ false
      → length (collapsed (b ∷ q)) ≡ suc (length (collapsed q))
  unfolding collapsed
  length_last one = grind (arith, cases_Bool)

pub collapsed_within : (q : List ℕ) → length (collapsed q) ≤ length q
unfolding collapsed
collapsed_within [] = omega arith
collapsed_within (b ∷ q) = grind (arith, cases_Bool, collapsed_within q)

pub star_starts : (q : List ℕ) → starts_with eqb q (star ∷ []) ≡ (get_or q 0 0 == star)
star_starts q = grind (arith, and-true, nat_eq_equiv)
