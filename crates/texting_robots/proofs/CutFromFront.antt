-- The cut of a text, read from its start: the first line, and the lines of the rest.
use Rattle.std.proofs.Common.{◌≡◌, ◌≢◌, ℕ, zero, suc, ◌+◌, ◌%◌, ◌^◌, ◌<◌, ◌≤◌, Bool, true, false, ◌==◌, ◌||◌}
use Rattle.std.proofs.Common.{inl, inr, List, [], ◌∷◌, length, take, drop, get_or, map, sym, refl, ap, ◌∙◌}
use Rattle.std.proofs.Common.{arith, cond, if◌then◌else◌, map-id, Option, Some, None, MatchOption, bit_or}
use Rattle.std.specs.{List.list_all, List.position_or_len, Int.trailing_zeros, Int.w64}
use Rattle.std.proofs.lemmas.Bool.{cases_Bool, cond-false, eqb-true, ne_eqb}
use Rattle.std.proofs.lemmas.List.{drop-map, get_or-take, take-map, length-map, length-take, Folds.map_fixed}
use Rattle.std.proofs.lemmas.List.{Recursion.is_position_or_len, Sums.fails_before_first}
use lib.Lanes.{mask_l, top}
use Rattle.std.proofs.Math.Bool.{or_assoc, or_comm, or_self, or-false}
use Rattle.memchr.specs.Find.{is_byte2, is_byte3, IsFirstByte}
use Rattle.texting_robots.proofs.LaneLemmas.{first_labeled, first_seen}
use Rattle.texting_robots.proofs.LabelLemmas.{position_if_first, len_if_nowhere}
use Rattle.texting_robots.specs.{Cut.Pair, Cut.cr, Cut.lf, Internal.Cut.empty_lines}
use Rattle.texting_robots.specs.Internal.Cut.{bodies_of, cut, body_len, end_len, is_feed, read_as, read_byte}
use Rattle.texting_robots.proofs.CutLemmas.{byte_cases, cut_cons, cut_nil, pair_of}

abbrev pub after_body : List ℕ → List ℕ
after_body text = drop (body_len text) text

abbrev pub after_end : List ℕ → List ℕ
after_end text = drop (end_len text) text

abbrev pub rest_of : List ℕ → List ℕ
rest_of text = after_end (after_body text)

abbrev pub first_of : List ℕ → Pair
first_of text = pair_of (take (body_len text) text) (take (end_len (after_body text)) (after_body text))

abbrev pub FirstLine : List ℕ → Type 0
FirstLine text = cut text ≡ first_of text ∷ cut (rest_of text)

pub cut_first_line : (b : ℕ) (text : List ℕ) → FirstLine (b ∷ text)
cut_first_line b [] = grind (arith, byte_cases, cut_cons, cut_nil, ne_eqb)
cut_first_line b (c ∷ text) =
    let next = cut_first_line c text in
    elim (byte_cases b) [
      | inl feed ↦ rw (feed, cut_cons lf) refl
      | inr (inl return) ↦ rw (return, cut_cons cr, next) (elim (byte_cases c) [
        | inl feed ↦ rw feed refl
        | inr (inl return) ↦ rw return refl
        | inr (inr other) ↦ grind (arith, ne_eqb, pair_of)
      ])
      | inr (inr other) ↦ grind (arith, cut_cons, ne_eqb)
    ]

bodies_first : (text : List ℕ) → 0 < length text
    → bodies_of text ≡ take (body_len text) text ∷ bodies_of (rest_of text)
bodies_first [] some = absurd (omega (arith, some))
bodies_first (b ∷ text) some = grind (arith, cut_first_line)

pub bodies_nil : bodies_of [] ≡ []
bodies_nil = ap (map (λ (p : Pair). p.body)) cut_nil

pub read_as_is : (text : List ℕ) → read_as false text ≡ text
read_as_is text = map-id text

pub past_return : (n : Bool) (after : List ℕ)
    → drop (end_len (read_as n (cr ∷ after))) (cr ∷ after) ≡ drop (end_len (read_as n after)) after
past_return n after = grind arith

pub past_returns : (n : Bool) (k : ℕ) (text : List ℕ) → list_all (λ b. b == cr) (take k text) ≡ true
    → k ≤ length text
    → drop (end_len (read_as n (drop k text))) (drop k text) ≡ drop (end_len (read_as n text)) text
past_returns n zero text all within = refl
past_returns n (suc k) [] all within = absurd (omega (arith, within))
past_returns n (suc k) (b ∷ text) all within =
    grind (arith, cases_Bool, eqb-true, past_return, past_returns n k text)

pub past_line_feed : (n : Bool) (after : List ℕ)
    → drop (end_len (read_as n (lf ∷ after))) (lf ∷ after) ≡ after
past_line_feed n after = grind arith

pub past_feed : (n : Bool) (b : ℕ) (after : List ℕ) → (read_byte n b == lf) ≡ true
    → drop (end_len (read_as n (b ∷ after))) (b ∷ after) ≡ after
past_feed n b after is = rw is refl

pub no_end : (n : Bool) (b : ℕ) (after : List ℕ) → b ≢ cr → (read_byte n b == lf) ≡ false
    → drop (end_len (read_as n (b ∷ after))) (b ∷ after) ≡ b ∷ after
no_end n b after not_cr not_lf = grind (arith, cases_Bool, ne_eqb)

pub no_empty_line : (n : Bool) (b : ℕ) (after : List ℕ) → is_feed n b ≡ false
    → empty_lines n (b ∷ after) ≡ 0
no_empty_line n b after isnt = rw isnt refl

pub an_empty_line : (n : Bool) (b : ℕ) (after : List ℕ) → is_feed n b ≡ true
    → empty_lines n (b ∷ after) ≡ 1 + empty_lines n after
an_empty_line n b after is = rw is refl

abbrev Ends : Bool → (ℕ → Bool) → Type 0
Ends n test = (b : ℕ) → test b ≡ (read_byte n b == lf || read_byte n b == cr)

body_by : (n : Bool) (test : ℕ → Bool) → Ends n test → (text : List ℕ)
    → position_or_len test text ≡ body_len (read_as n text)
body_by n test ends text =
    sym (is_position_or_len (λ t. body_len (read_as n t)) test refl
    (grind (arith, step, test, ends)) text)
  where
    step : (x y z : Bool) (k : ℕ) → z ≡ (x || y)
        → (if x then 0 else (if y then 0 else suc k)) ≡ cond z 0 (1 + k)
    step true y z k e = rw e refl
    step false true z k e = rw e refl
    step false false z k e = rw e (omega arith)

pub ends_as_is : Ends false (is_byte2 cr lf)
ends_as_is b = or_comm (b == cr) (b == lf)

pub ends_with_nul : Ends true (is_byte3 cr lf 0)
ends_with_nul b = grind (arith, cases_Bool, eqb-true, or-false, or_comm)

pub body_found : (n : Bool) (test : ℕ → Bool) (text : List ℕ) (found : Option ℕ) → Ends n test
    → IsFirstByte test text found
    → (let len = body_len (read_as n text) in
    MatchOption found (len ≡ length text) (λ end. (len ≡ end) × (end < length text)))
body_found n test text None ends none = sym (body_by n test ends text) ∙ len_if_nowhere test text none
body_found n test text (Some k) ends first =
    (sym (body_by n test ends text) ∙ position_if_first test text k first.0 first.1, first.0.high)

-- searching only the first `k` bytes of a text: they contain the end of the line, or all belong to it
pub front_seen : (n : Bool) (text : List ℕ) (k len : ℕ) → k ≤ length text
    → len ≡ body_len (read_as n (take k text))
    → (len < k → body_len (read_as n text) ≡ len)
    × (k ≤ len → body_len (read_as n text) ≡ k + body_len (read_as n (drop k text)))
front_seen n text k len within len_is =
    let test = λ (b : ℕ). read_byte n b == lf || read_byte n b == cr in
    let by = body_by n test (λ b. refl) in
    grind (arith, first_seen, by, len_is)

abbrev flag : ℕ → ℕ → ℕ
flag third b =
    bit_or (bit_or (cond (b == cr) 255 0) (cond (b == lf) 255 0)) (cond (b == third) 255 0)

pub ends_delimited : (n : Bool) (third : ℕ) → third ≡ (if n then 0 else lf)
    → Ends n (λ b. top 7 (flag third b))
ends_delimited n third is b = grind (arith, ends_as_is, ends_with_nul, or_assoc, or_self)

-- the first flagged lane is the end of the line
pub labeled_first : (n : Bool) (f : ℕ → ℕ) (width : ℕ) (v lanes : List ℕ) → width ≤ 64
    → length v ≡ width → lanes ≡ map f v
    → Ends n (λ b. top 7 (f b))
    → (let mask = mask_l (map (top 7) lanes) % 2 ^ 64 in
    (if mask == 0 then width else trailing_zeros w64 mask) ≡ body_len (read_as n v))
labeled_first n f width v lanes fits long lanes_are ends =
    first_labeled f width v lanes fits long lanes_are ∙ body_by n (λ b. top 7 (f b)) ends v

body_plain : (n : Bool) (text : List ℕ)
    → take (body_len (read_as n text)) (read_as n text) ≡ take (body_len (read_as n text)) text
body_plain n text =
    let test = λ (b : ℕ). read_byte n b == lf || read_byte n b == cr in
    let len = body_len (read_as n text) in
    let is = body_by n test (λ b. refl) text in
    take-map (read_byte n) len text ∙ map_fixed (read_byte n) (take len text)
    (λ i d below. let short = length-take len text in
    let before : i < len = omega arith in
    rw (get_or-take len text i d before)
    (as_is n (get_or text i d) (fails_before_first test text i d (rw is before))))
  where
    as_is : (n : Bool) (b : ℕ) → (read_byte n b == lf || read_byte n b == cr) ≡ false
        → read_byte n b ≡ b
    as_is false b plain = refl
    as_is true b plain = elim (cases_Bool (b == 0)) [
      | inl nul ↦ (let wrong : true ≡ false = rw nul at plain in cc)
      | inr other ↦ cond-false _ _ _ other
    ]

pub next_body : (n : Bool) (rest : List ℕ) → 0 < length rest
    → (let k = body_len (read_as n rest) in
    let after = drop k rest in
    bodies_of (read_as n rest)
    ≡ take k rest ∷ bodies_of (read_as n (drop (end_len (read_as n after)) after)))
next_body n rest some = grind (arith, bodies_first, body_plain, drop-map, length-map)
