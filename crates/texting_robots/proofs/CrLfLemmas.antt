-- The line contents of a text, computed byte by byte from its end. CR LF and LF end a line in the same way.
use Rattle.std.proofs.Common.{◌≡◌, ℕ, false, ◌==◌, ◌&&◌, inl, inr, List, [], ◌∷◌, if◌then◌else◌, map, arith}
use Rattle.std.proofs.Common.{slice_index, refl, ap, ◌∙◌, ◌↔◌}
use Rattle.std.proofs.lemmas.Bool.{cases_Bool, cond-false, and_parts, eqb-true, ne_eqb}
use Rattle.texting_robots.specs.{Cut.Pair, Cut.cr, Cut.lf, Executable.parsed, Theorems.crlf_to_lf}
use Rattle.texting_robots.specs.Internal.Cut.{before_body, before_byte, before_end, bodies_of, cut}
use Rattle.texting_robots.specs.Line.{without, without_bom, AreLinesOf, LineValue}
use Rattle.texting_robots.proofs.CutLemmas.{byte_cases, cut_cons, pair_of}
use Rattle.texting_robots.proofs.{LineLemmas.each_text_has_its_lines}

abbrev bodies_in : List Pair → List (List ℕ)
bodies_in pairs = map (λ pair. pair.body) pairs

abbrev pub body_byte : ℕ → List (List ℕ) → List (List ℕ)
body_byte b [] = (b ∷ []) ∷ []
body_byte b (body ∷ bodies) = (b ∷ body) ∷ bodies

abbrev pub body_return : List (List ℕ) → List (List ℕ)
body_return [] = [] ∷ []
body_return ([] ∷ bodies) = [] ∷ bodies
body_return ((b ∷ body) ∷ bodies) = [] ∷ (b ∷ body) ∷ bodies

-- the line contents after one more byte is added at the start
abbrev pub body_step : ℕ → List (List ℕ) → List (List ℕ)
body_step b bodies =
    if b == lf then [] ∷ bodies else (if b == cr then body_return bodies else body_byte b bodies)

with_byte : (b : ℕ) (pairs : List Pair)
    → bodies_in (before_body b pairs) ≡ body_byte b (bodies_in pairs)
with_byte b [] = refl
with_byte b (pair ∷ pairs) = refl

with_return : (pairs : List Pair) → bodies_in (before_end pairs) ≡ body_return (bodies_in pairs)
with_return pairs = grind (arith, pair_of)

with_step : (b : ℕ) (pairs : List Pair)
    → bodies_in (before_byte b pairs) ≡ body_step b (bodies_in pairs)
with_step b pairs = grind (arith, byte_cases, ne_eqb, with_byte, with_return)

pub bodies_cons : (b : ℕ) (text : List ℕ) → bodies_of (b ∷ text) ≡ body_step b (bodies_of text)
bodies_cons b text = ap bodies_in (cut_cons b text) ∙ with_step b (cut text)

return_before_feed : (b : ℕ) (text : List ℕ) → b ≡ cr → slice_index text 0 ≡ lf
    → bodies_of (b ∷ text) ≡ bodies_of text
return_before_feed b [] return feed = absurd (omega (arith, feed))
return_before_feed b (c ∷ text) return feed = grind (arith, cut_cons)

bodies_of_crlf : (text : List ℕ) → bodies_of (crlf_to_lf text) ≡ bodies_of text
bodies_of_crlf [] = refl
bodies_of_crlf (b ∷ text) = elim (cases_Bool (b == cr && slice_index text 0 == lf)) [
  | inl pair ↦
      grind (arith, and_parts, eqb-true, return_before_feed, bodies_of_crlf text)
  | inr single ↦ grind (arith, bodies_cons, bodies_of_crlf text)
]

feed_stays : (byte : ℕ) (text : List ℕ) → (lf == byte) ≡ false → slice_index text 0 ≡ lf
    → without byte text ≡ text
feed_stays byte text no_lf feed = grind (arith, cond-false)

without_alone : (byte : ℕ) (text : List ℕ) → (lf == byte) ≡ false → (cr == byte) ≡ false
    → without byte (crlf_to_lf text) ≡ crlf_to_lf (without byte text)
without_alone byte [] no_lf no_cr = refl
without_alone byte (b ∷ text) no_lf no_cr =
    grind (arith, and_parts, cases_Bool, eqb-true, feed_stays, without_alone byte text no_lf no_cr)

front_alone : (text : List ℕ) → without_bom (crlf_to_lf text) ≡ crlf_to_lf (without_bom text)
front_alone text = grind (arith, without_alone)

parsed_of_crlf : (text : List ℕ) → parsed (crlf_to_lf text) ≡ parsed text
parsed_of_crlf text = grind (arith, front_alone, bodies_of_crlf)

pub cr_lf_is_lf : (text : List ℕ) (lines : List LineValue)
    → AreLinesOf lines (crlf_to_lf text) ↔ AreLinesOf lines text
cr_lf_is_lf text lines = grind (arith, each_text_has_its_lines, parsed_of_crlf)
