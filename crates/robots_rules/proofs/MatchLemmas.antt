-- What the first byte of a text leaves of a pattern.
use Rattle.std.proofs.Common.{◌≡◌, ◌≢◌, inl, inr, ℕ, zero, suc, ◌+◌, ◌<◌, ◌≤◌, cond, Bool, true, false, ◌==◌}
use Rattle.std.proofs.Common.{◌||◌, List, [], ◌∷◌, ◌++◌, Contains, drop, get_or, length, refl, ap, ◌∙◌}
use Rattle.std.proofs.Common.{add-one, arith}
use Rattle.std.proofs.lemmas.List.{Elements.Contains-append_right, get_or_default}
use Rattle.std.proofs.Math.{ListN.drop_of_length-le, Seq.drop-cons}
use Rattle.std.proofs.lemmas.Bool.{cases_Bool, cases_lt, ne_eqb}
use Rattle.std.proofs.lemmas.Bool.Decides.{Decides-eqb, not_from_Decides}
use Rattle.texting_robots.specs.Pattern.{dollar, star}
use Rattle.texting_robots.proofs.Shared.{matches}
use Rattle.robots_rules.specs.Internal.{passed}

or_again : (a b : Bool) → ((a || b) || b) ≡ (a || b)
or_again a b = grind arith

double_star : (q t : List ℕ) → matches true (star ∷ star ∷ q) t ≡ matches true (star ∷ q) t
double_star q [] = refl
double_star q (x ∷ t) = grind (arith, matches, or_again, double_star q t)

star_alone : (t : List ℕ) → matches true (star ∷ []) t ≡ true
star_alone [] = refl
star_alone (x ∷ t) = refl

first_at : (p : List ℕ) (k b : ℕ) → k < length p → get_or p k 0 ≡ b → drop k p ≡ b ∷ drop (suc k) p
first_at p k b below is = grind (arith, drop-cons)

-- one more star
pub passed_more : (p : List ℕ) (k : ℕ) (t : List ℕ) → k < length p → get_or p k 0 ≡ star
    → matches true p t ≡ matches true (passed k p) t → matches true p t ≡ matches true (passed (k + 1) p) t
passed_more p zero t below is kept = grind (arith, first_at, matches)
passed_more p (suc k) t below is kept =
    rw add-one (kept ∙ ap (λ (q : List ℕ). matches true (star ∷ q) t) (first_at p (suc k) star below is)
    ∙ double_star (drop (suc (suc k)) p) t)

pub all_match : (p : List ℕ) (k : ℕ) (t : List ℕ) → length p ≤ k
    → matches true p t ≡ matches true (passed k p) t → matches true p t ≡ true
all_match [] k t most is = refl
all_match (x ∷ p) zero t most is = absurd (omega arith)
all_match (x ∷ p) (suc k) t most is = grind (arith, drop_of_length-le, matches, star_alone)

-- the byte is none that matters to the rest of the pattern after its stars
abbrev pub IsOther : List ℕ → ℕ → ℕ → Type 0
IsOther p k b = k < length p → get_or p k 0 ≢ dollar → b ≢ get_or p k 0

module _ (b c : ℕ) (t : List ℕ) where
  first_alike : (x : ℕ) (q : List ℕ) → x ≢ star → (x ≢ dollar → b ≢ x) → (x ≢ dollar → c ≢ x)
      → matches true (x ∷ q) (b ∷ t) ≡ matches true (x ∷ q) (c ∷ t)
  first_alike x q plain no_b no_c = grind (arith, cases_Bool, ne_eqb, not_from_Decides)

  tail_alike : (p : List ℕ) (k : ℕ) → (k < length p → get_or p k 0 ≢ star) → IsOther p k b → IsOther p k c
      → matches true (drop k p) (b ∷ t) ≡ matches true (drop k p) (c ∷ t)
  tail_alike p k plain no_b no_c = elim (cases_lt k (length p)) [
    | inl below ↦ rw (drop-cons p k 0) (first_alike (get_or p k 0) (drop (suc k) p) (plain below) (no_b
        below) (no_c below))
    | inr most ↦ rw (drop_of_length-le p most) refl
  ]

  pub passed_alike : (p : List ℕ) (k : ℕ) → (k < length p → get_or p k 0 ≢ star)
      → ((text : List ℕ) → matches true p text ≡ matches true (passed k p) text) → IsOther p k b
      → IsOther p k c
      → matches true p (b ∷ t) ≡ matches true p (c ∷ t)
  passed_alike p zero plain is no_b no_c = tail_alike p 0 plain no_b no_c
  passed_alike p (suc k) plain is no_b no_c = grind (arith, matches, tail_alike)

pub listed_at : (bytes : List ℕ) (i b : ℕ) → i < length bytes → (get_or bytes i 0 == b) ≡ true
    → Contains bytes b
listed_at bytes i b below at = (
  i,
  below,
  get_or_default bytes i b 0 below
      ∙ (Decides-eqb (get_or bytes i 0) b).0 at,
)

pub listed_last : (bytes : List ℕ) (b : ℕ) → Contains (bytes ++ b ∷ []) b
listed_last bytes b = Contains-append_right bytes (b ∷ []) b (0, omega arith, refl)

pub other_than : (bytes : List ℕ) (b x : ℕ) → Contains bytes x → ¬ Contains bytes b → b ≢ x
other_than bytes b x has none = grind arith

-- ---- A step by a byte

pub at_empty : (p : List ℕ) (b : ℕ) (t : List ℕ) → length p ≤ 0 → matches true p (b ∷ t) ≡ matches true p t
at_empty [] b t none = refl
at_empty (x ∷ p) b t none = absurd (omega arith)

pub at_dollar : (p : List ℕ) (b : ℕ) (t : List ℕ) → 0 < length p → get_or p 0 0 ≡ dollar
    → matches true p (b ∷ t) ≡ false
at_dollar [] b t some is = absurd (omega arith)
at_dollar (x ∷ p) b t some is = rw is refl

pub at_other : (p : List ℕ) (b : ℕ) (t : List ℕ) → 0 < length p → get_or p 0 0 ≢ star
    → get_or p 0 0 ≢ dollar
    → get_or p 0 0 ≢ b → matches true p (b ∷ t) ≡ false
at_other [] b t some plain no_end differ = absurd (omega arith)
at_other (x ∷ p) b t some plain no_end differ = grind (arith, ne_eqb)

pub at_same : (p : List ℕ) (b : ℕ) (t : List ℕ) → 0 < length p → get_or p 0 0 ≢ star → get_or p 0 0 ≢ dollar
    → get_or p 0 0 ≡ b → matches true p (b ∷ t) ≡ matches true (drop 1 p) t
at_same p b t h h2 h3 h4 = grind (arith, ne_eqb)

cond_or : (a b kind other : Bool) → cond a kind (cond b kind other) ≡ cond (a || b) kind other
cond_or a b kind other = grind arith

-- first the pattern itself is pushed, and then what the byte leaves of it after its stars
pub after_stars : (p : List ℕ) (k b : ℕ) (t : List ℕ) (kind old made more : Bool) → 0 < k
    → ((text : List ℕ) → matches true p text ≡ matches true (passed k p) text)
    → made ≡ cond (matches true p t) kind old → more ≡ cond (matches true (drop k p) (b ∷ t)) kind made
    → more ≡ cond (matches true p (b ∷ t)) kind old
after_stars p k b t kind old made more h h2 h3 h4 = grind (arith, cond_or, matches)
