-- The index of the first byte that passes a test, as vectors find it.
use Rattle.std.proofs.Common.{◌≡◌, ℕ, zero, suc, ◌+◌, ◌-◌, ◌*◌, ◌%◌, ◌^◌, ◌<◌, ◌≤◌, ◌==◌, ◌||◌, Bool, true}
use Rattle.std.proofs.Common.{false, not, List, [], ◌∷◌, length, take, drop, map, sym, refl, ap, ◌∙◌, arith}
use Rattle.std.proofs.Common.{◌++◌, cond, if◌then◌else◌, bit_or, length-append, Option}
use Rattle.std.specs.List.{list_all, list_any, position_or_len, prefix_len}
use Rattle.std.specs.Int.{trailing_zeros, w64}
use Rattle.std.proofs.lemmas.Bool.{cases_Bool, cases_eq, cases_lt, cond-true, cond-false, eq-eqb, ne_eqb}
use lib.Dec.{eqb, ltb}
use Rattle.std.proofs.lemmas.List.{length-drop, length-map, length-take, length-take-le, take-append-drop}
use Rattle.std.proofs.lemmas.List.{take_all, take_rest, Folds.prefix_len-append, Sums.prefix_len-le-length}
use Rattle.std.proofs.lemmas.Simd.{first_set_mask_l, length-zip2, map-map, mask_l-mod, tops_compared}
use lib.Lanes.{mask_l, top, zip2}
use mir.Syntax.{w8}
use std.Path.{fun_ext}
use Rattle.std.specs.{Option.unwrap_or}
use Rattle.memchr.specs.{Find.IsFirstByte}
use Rattle.texting_robots.specs.{Escape.is_escaped, Internal.ByteSet.ends_of, Internal.Segments.is_wildcard}
use Rattle.texting_robots.specs.Pattern.{dollar, star}
use Rattle.texting_robots.proofs.LabelLemmas.{position_if_first, len_if_nowhere}

-- the first flagged lane is the first byte that passes
pub first_labeled : (f : ℕ → ℕ) (width : ℕ) (v lanes : List ℕ) → width ≤ 64
    → length v ≡ width → lanes ≡ map f v
    → (let mask = mask_l (map (top 7) lanes) % 2 ^ 64 in
    (if mask == 0 then width else trailing_zeros w64 mask) ≡ position_or_len (λ b. top 7 (f b)) v)
first_labeled f width v lanes fits long lanes_are =
    let test = λ (b : ℕ). top 7 (f b) in
    let mask : mask_l (map (top 7) lanes) % 2 ^ 64 ≡ mask_l (map test v)
    = cc (map-map (top 7) f v, mask_l-mod (map test v) 64 (omega (arith, length-map v test, long))) in
    grind (arith, first_set_mask_l)

-- how many leading bytes pass, from the first `k`
module _ (pass : ℕ → Bool) (text : List ℕ) where
  front_seen : (k : ℕ) → k ≤ length text
      → (let here = prefix_len pass (take k text) in
      (here < k → prefix_len pass text ≡ here)
      × (k ≤ here → prefix_len pass text ≡ k + prefix_len pass (drop k text)))
  front_seen k within =
      let front = take k text in
      let back = drop k text in
      let here = prefix_len pass front in
      let long = length-take-le k text within in
      let most = prefix_len-le-length pass front in
      let seen : prefix_len pass text ≡ cond (here == k) (k + prefix_len pass back) here =
      ap (prefix_len pass) (sym (take-append-drop k text))
      ∙ prefix_len-append pass front back ∙ rw long refl in grind (
        arith,
        cond-false,
        cond-true,
        eq-eqb,
        ne_eqb,
      )

  front_passed : (k : ℕ) → k ≤ prefix_len pass text
      → prefix_len pass text ≡ k + prefix_len pass (drop k text)
  front_passed k passed =
      let (some, all) = front_seen k (omega (arith, passed, prefix_len-le-length pass text)) in
      grind (arith, cases_lt, some, all)

  -- the first and the last `k`, which cover the text
  pub ends_tell : (k : ℕ) → k ≤ length text → length text ≤ k + k
      → (let seen = prefix_len pass (ends_of k text) in
      (seen ≤ k + k)
      × (seen < k → prefix_len pass text ≡ seen)
      × (k ≤ seen → prefix_len pass text + (k + k) ≡ length text + seen))
  ends_tell k within meet =
      let n = length text - k in
      let here = prefix_len pass (take k text) in
      let back = drop n text in
      let long = length-take-le k text within in
      let seen : prefix_len pass (ends_of k text) ≡ cond (here == k) (k + prefix_len pass back) here =
      prefix_len-append pass (take k text) back ∙ rw long refl in
      let most = prefix_len-le-length pass (take k text) in
      let last = prefix_len-le-length pass back in
      let short = length-drop n text in
      let (some, all) = front_seen k within in
      grind (arith, cases_eq, cond-false, cond-true, eq-eqb, ne_eqb, some, all, front_passed n)

pub seen_within : (pass : ℕ → Bool) (text : List ℕ) → prefix_len pass text ≤ length text
seen_within pass text = prefix_len-le-length pass text

-- sixteen after `at` that pass
pub sixteen_seen : (pass : ℕ → Bool) (text : List ℕ) (at : ℕ) → at + 16 ≤ length text
    → at ≤ prefix_len pass text
    → (let here = prefix_len pass (take 16 (drop at text)) in (here ≤ 16)
    × (here < 16 → prefix_len pass text ≡ at + here) × (16 ≤ here → at + 16 ≤ prefix_len pass text))
sixteen_seen pass text at within passed =
    let rest = drop at text in
    let long : 16 ≤ length rest = omega (arith, length-drop at text, within) in
    let (some, all) = front_seen pass rest 16 long in
    let most = prefix_len-le-length pass (take 16 rest) in
    let whole = front_passed pass text at passed in
    grind (arith, length-take-le 16 rest long, most, whole, some, all)

pub joined_ends : (k : ℕ) (text : List ℕ) → k ≤ length text
    → (let joined = take k text ++ take k (drop (length text - k) text) in
    (joined ≡ ends_of k text) × (length joined ≡ k + k))
joined_ends k text within =
    let back = drop (length text - k) text in
    let last : length back ≡ k = length-drop (length text - k) text ∙ omega arith in
    rw (take_all k back (omega (arith, last)))
    (refl, length-append (take k text) back ∙ omega (arith, length-take-le k text within, last))

pub ends_len : (k : ℕ) (text : List ℕ) → k ≤ length text → length (ends_of k text) ≡ k + k
ends_len k text within = let (same, long) = joined_ends k text within in sym (ap length same) ∙ long

module _ (test : ℕ → Bool) (text : List ℕ) where
  pub first_seen : (k : ℕ) → k ≤ length text
      → (let here = position_or_len test (take k text) in
      (here < k → position_or_len test text ≡ here)
      × (k ≤ here → position_or_len test text ≡ k + position_or_len test (drop k text)))
  first_seen k within = front_seen (λ b. not (test b)) text k within

  -- the last `k` bytes, if the first and the last `k` cover the text
  pub last_seen : (k : ℕ) → k ≤ length text → length text ≤ k + k
      → k ≤ position_or_len test (take k text)
      → (let n = length text - k in
      position_or_len test text
      ≡ n + position_or_len test (take k (take (length text - n) (drop n text))))
  last_seen k within meet none =
      let n = length text - k in
      let whole = (first_seen k within).1 none in
      let parts = first_seen n (omega arith) in
      let short = length-drop n text in
      grind (arith, cases_lt, take_all, take_rest, parts.0, parts.1)

  pub within_front : (k : ℕ) → position_or_len test (take k text) ≤ k
  within_front k = grind (arith, length-take, prefix_len-le-length)

  pub found_or_end : (found : Option ℕ) → IsFirstByte test text found
      → unwrap_or found (length text) ≡ position_or_len test text
  found_or_end found none = grind (arith, len_if_nowhere, position_if_first)

pub prefix_len_add : (test : ℕ → Bool) (k : ℕ) (text : List ℕ) → k ≤ length text
    → list_all test (take k text) ≡ true → prefix_len test text ≡ k + prefix_len test (drop k text)
prefix_len_add test zero text within all = omega arith
prefix_len_add test (suc k) [] within all = absurd (omega (arith, within))
prefix_len_add test (suc k) (b ∷ text) within all = grind (arith, cases_Bool, prefix_len_add test k text)

abbrev flag : ℕ → ℕ
flag b = bit_or (cond (b == star) 255 0) (cond (b == dollar) 255 0)

label_is : (b : ℕ) → top 7 (flag b) ≡ is_wildcard b
label_is b = grind arith

pub first_wildcard_lane : (width : ℕ) (v lanes : List ℕ) → width ≤ 64 → length v ≡ width
    → lanes ≡ map flag v
    → (let mask = mask_l (map (top 7) lanes) % 2 ^ 64 in
    (if mask == 0 then width else trailing_zeros w64 mask) ≡ position_or_len is_wildcard v)
first_wildcard_lane width v lanes fits long lanes_are =
    cc (first_labeled flag width v lanes fits long lanes_are, fun_ext label_is)

pub any_flagged : (f : ℕ → ℕ) (v lanes : List ℕ) → length v ≤ 64 → lanes ≡ map f v
    → not (mask_l (map (top 7) lanes) % 2 ^ 64 == 0) ≡ list_any (λ b. top 7 (f b)) v
any_flagged f v lanes fits lanes_are =
    let test = λ (b : ℕ). top 7 (f b) in
    cc (map-map (top 7) f v, mask_l-mod (map test v) 64 (omega (arith, length-map v test)), any_set test v)
  where
    any_set : (test : ℕ → Bool) (v : List ℕ) → not (mask_l (map test v) == 0) ≡ list_any test v
    any_set test [] = refl
    any_set test (b ∷ v) = one_more (test b) (mask_l (map test v)) ∙ ap (λ x. test b || x) (any_set test v)
      where
        one_more : (x : Bool) (n : ℕ) → not (cond x 1 0 + 2 * n == 0) ≡ (x || not (n == 0))
        one_more true n = ap not (ne_eqb (1 + 2 * n) 0 (omega arith))
        one_more false zero = refl
        one_more false (suc n) =
            ap not (ne_eqb (0 + 2 * suc n) 0 (omega arith) ∙ sym (ne_eqb (suc n) 0 (omega arith)))

abbrev lane : Bool → ℕ
lane x = cond x 255 0

abbrev escape_lane : ℕ → ℕ
escape_lane b = bit_or (bit_or (bit_or (bit_or (bit_or (lane (ltb b 0x21)) (lane (b == 0x22)))
    (lane (b == 0x3C))) (lane (b == 0x3E))) (lane (b == 0x60))) (lane (ltb 0x7E b))

joined : (x y : Bool) → bit_or (lane x) (lane y) ≡ lane (x || y)
joined x y = grind arith

regrouped : (u v w x y z : Bool) → (((((u || v) || w) || x) || y) || z) ≡ (u || v || w || x || y || z)
regrouped u v w x y z = grind arith

top_lane : (x : Bool) → top 7 (lane x) ≡ x
top_lane true = refl
top_lane false = refl

escape_lane_is : (b : ℕ) → top 7 (escape_lane b) ≡ is_escaped b
escape_lane_is b = grind (arith, joined, regrouped, top_lane)

pub escaped_lane : (v lanes : List ℕ) → length v ≤ 64 → lanes ≡ map escape_lane v
    → not (mask_l (map (top 7) lanes) % 2 ^ 64 == 0) ≡ list_any is_escaped v
escaped_lane v lanes fits lanes_are =
    cc (any_flagged escape_lane v lanes fits lanes_are, fun_ext escape_lane_is)

-- vectors are the same if the comparison sets every bit
module _ where
  ones : (xs ys : List ℕ) → length xs ≡ length ys → mask_l (zip2 eqb xs ys) + 1 ≡ 2 ^ length xs → xs ≡ ys
  ones [] [] long full = refl
  ones [] (y ∷ ys) long full = absurd (omega arith)
  ones (x ∷ xs) [] long full = absurd (omega arith)
  ones (x ∷ xs) (y ∷ ys) long full = grind (arith, cases_eq, eq-eqb, ne_eqb, ones xs ys)

  pub same_lanes : (xs ys : List ℕ) → length xs ≡ 8 → length ys ≡ 8
      → mask_l (map (top 7) (zip2 (λ a b. cond (eqb a b) 255 0) xs ys)) % 2 ^ 64 ≡ 255 → xs ≡ ys
  same_lanes xs ys long along full =
      let tops = ap (λ ms. mask_l ms % 2 ^ 64) (tops_compared w8 eqb xs ys) in
      let short = length-zip2 eqb xs ys in
      let mask = mask_l-mod (zip2 eqb xs ys) 64 (omega (arith, short, long, along)) in
      grind (arith, ones)
