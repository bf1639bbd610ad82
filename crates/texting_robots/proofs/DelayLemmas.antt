-- `delay_of` gives the delay of a text, and it is the only one.
use Rattle.std.specs.Prelude.{◌==◌, Decides, MatchBool, slice_index}
use Rattle.std.proofs.Common.{◌≡◌, inl, inr, ℕ, ◌*◌, ◌^◌, ◌<◌, Bool, true, false, ltb, [], List, ◌∷◌, ◌++◌}
use Rattle.std.proofs.Common.{All, Option, Some, None, codes, length, map, refl, sym, subst, arith, ◌↔◌}
use Rattle.std.specs.Char.{IsAsciiDigit, is_ascii_digit, to_ascii_lowercase}
use Rattle.std.specs.{Cmp.Lexicographic.bytes_decides, List.list_all, List.prefix_len}
use Rattle.std.specs.Option.{option_and_then, option_map}
use Rattle.std.specs.Str.{byte, str_eq_ignore_ascii_case, str_to_ascii_lowercase}
use Rattle.std.specs.Str.Parse.{digits_value, starts_with_minus, without_leading_sign}
use Rattle.std.proofs.Math.Nat.{le-div_iff_mul-le, le-min, min-le_left, min-le_right, mul_assoc, mul-pos}
use Rattle.std.proofs.Math.Nat.{one-le-pow}
use Rattle.std.proofs.lemmas.{Option.cond_some, Str.Ascii.lowercase_is}
use Rattle.std.proofs.lemmas.Bool.{and_parts, and_right, cases_Bool, cond-false, cond-true, le-leb, eqb-true}
use Rattle.std.proofs.lemmas.Bool.{false_from_ne_true, leb-true, lt-leb, lt-ltb, ltb-true, ne_eqb, or_cases}
use Rattle.std.proofs.lemmas.Bool.Decides.{Decides-and, Decides-by_and, Decides-eqb, Decides-ltb, Decides-or}
use Rattle.std.proofs.lemmas.List.{drop_at, get_or-take, length-append, length-take, take-append-drop}
use Rattle.std.proofs.lemmas.List.{take_at, Sums.prefix_len_passes}
use Rattle.std.proofs.lemmas.List.Elements.{All-head, All-nil, All-tail}
use Rattle.texting_robots.specs.Delay.{Decimal, IsDelay, IsInfinite, IsNumeral, IsPoint, IsTail, NamesZero}
use Rattle.texting_robots.specs.Delay.{NamesSeconds, Rounds, Writes, negative_exponent, positive_exponent}
use Rattle.texting_robots.specs.Internal.Delay.{HasDigits, after_fraction, digits_in_front, fraction_in_front}
use Rattle.texting_robots.specs.Internal.Delay.{after_digits, delay_after, delay_of, exponent_of, is_infinite}
use Rattle.texting_robots.specs.Internal.Delay.{is_numeral, is_zero, zero_of, number_of, number_with, rounded}
use Rattle.texting_robots.proofs.CapturedLemmas.{cond_some_iff}

digit_decides : (b : ℕ) → Decides (is_ascii_digit b) (IsAsciiDigit b)
digit_decides b = grind (arith, le-leb, leb-true)

numeral_decides : (text : List ℕ) → Decides (is_numeral text) (IsNumeral text)
numeral_decides text =
    Decides-and (ltb 0 (length text)) (list_all is_ascii_digit text) (Decides-ltb 0 (length text))
    (Decides-by_and is_ascii_digit IsAsciiDigit (list_all is_ascii_digit) digit_decides refl
    (λ _ _. refl) text)

zero_decides : (n : Decimal)
    → Decides (is_zero n) (All (λ digit. digit ≡ byte "0") (n.whole ++ n.fraction))
zero_decides n =
    let test : ℕ → Bool = λ digit. digit == byte "0" in
    Decides-by_and test (λ digit. digit ≡ byte "0") (list_all test)
    (λ digit. Decides-eqb digit (byte "0")) refl (λ _ _. refl) (n.whole ++ n.fraction)

infinite_decides : (text : List ℕ) → Decides (is_infinite text) (IsInfinite text)
infinite_decides text =
    let lowered = str_to_ascii_lowercase text in
    Decides-or (str_eq_ignore_ascii_case text (codes "inf"))
    (str_eq_ignore_ascii_case text (codes "infinity"))
    (bytes_decides lowered (codes "inf")) (bytes_decides lowered (codes "infinity"))

abbrev Stops : List ℕ → Type 0
Stops rest = is_ascii_digit (slice_index rest 0) ≡ false

digits_front : (ds rest : List ℕ) → All IsAsciiDigit ds → Stops rest
    → prefix_len is_ascii_digit (ds ++ rest) ≡ length ds
digits_front [] [] digits stop = refl
digits_front [] (b ∷ rest) digits stop = rw stop refl
digits_front (d ∷ ds) rest digits stop =
    let more = digits_front ds rest (All-tail IsAsciiDigit d ds digits) stop in
    rw ((digit_decides d).1 (All-head IsAsciiDigit d ds digits)) (omega arith)

digits_read : (ds rest : List ℕ) → All IsAsciiDigit ds → Stops rest
    → (digits_in_front (ds ++ rest) ≡ ds) × (after_digits (ds ++ rest) ≡ rest)
digits_read ds rest digits stop = grind (arith, digits_front, drop_at, take_at)

-- what follows the digits is parsed as this fraction and this tail
record IsRead (rest fraction tail : List ℕ) : Type 0 where
  stop : Stops rest
  digits : fraction_in_front rest ≡ fraction
  following : after_fraction rest ≡ tail

tail_read : (tail exponent : List ℕ) → IsTail tail exponent → IsRead tail [] tail
    × (exponent_of tail ≡ Some exponent)
tail_read tail exponent h = grind (arith, cond-true, numeral_decides)

fraction_read : (point fraction tail : List ℕ) → IsPoint point fraction → All IsAsciiDigit fraction
    → IsRead tail [] tail → IsRead (point ++ (fraction ++ tail)) fraction tail
fraction_read point fraction tail (inl dot) digits is =
    let found = digits_read fraction tail digits is.stop in
    grind arith
fraction_read point fraction tail (inr (none, empty)) digits is = rw (none, empty) is

number_read : (text : List ℕ) (n : Decimal) → Writes text n → number_of text ≡ Some n
number_read text n h = grind (arith, digits_read, fraction_read, lt-ltb, tail_read)

-- ---- What is read is a number.

digits_are : (text : List ℕ) → All IsAsciiDigit (digits_in_front text)
digits_are text k d below = grind (arith, digit_decides, get_or-take, length-take, prefix_len_passes)

digits_whole : (text : List ℕ) → text ≡ digits_in_front text ++ after_digits text
digits_whole text = grind (arith, take-append-drop)

record IsFound (rest fraction tail : List ℕ) : Type 0 where
  point : List ℕ
  is_point : IsPoint point fraction
  is_rest : rest ≡ point ++ (fraction ++ tail)
  digits : All IsAsciiDigit fraction

no_fraction : (rest : List ℕ) → IsFound rest [] rest
no_fraction rest = grind arith

fraction_found : (rest : List ℕ) → IsFound rest (fraction_in_front rest) (after_fraction rest)
fraction_found [] = no_fraction []
fraction_found (b ∷ rest) = elim (cases_Bool (b == byte ".")) [
  | inl dot ↦ rw (dot, eqb-true b (byte ".") dot) (record {
    point = codes ".";
    is_point = inl refl;
    is_rest = cc (digits_whole rest);
    digits = digits_are rest;
  })
  | inr other ↦ rw other (no_fraction (b ∷ rest))
]

exponent_found : (tail exponent : List ℕ) → exponent_of tail ≡ Some exponent → IsTail tail exponent
exponent_found [] exponent e = inl (refl, cc)
exponent_found (b ∷ tail) exponent e =
    let (passes, is) = cond_some _ tail exponent e in
    grind (arith, and_parts, eqb-true, numeral_decides, or_cases)

abbrev decimal : List ℕ → List ℕ → List ℕ → Decimal
decimal whole fraction exponent = record { whole = whole; fraction = fraction; exponent = exponent }

with_found : (whole fraction : List ℕ) (o : Option (List ℕ)) (n : Decimal)
    → number_with whole fraction o ≡ Some n
    → (0 < length (whole ++ fraction))
    × ((e : List ℕ) × (o ≡ Some e) × (n ≡ decimal whole fraction e))
with_found whole fraction o n is = grind (arith, cond_some_iff, ltb-true)

number_found : (text : List ℕ) (n : Decimal) → number_of text ≡ Some n → Writes text n
number_found text n e =
    let whole = digits_in_front text in
    let fraction = fraction_in_front (after_digits text) in
    let tail = after_fraction (after_digits text) in
    let is = fraction_found (after_digits text) in
    let parts = with_found whole fraction (exponent_of tail) n e in
    subst (Writes text) (sym parts.1.2) (record {
      point = is.point;
      tail = tail;
      is_text = cc (digits_whole text);
      whole = digits_are text;
      fraction = is.digits;
      some = parts.0;
      is_point = is.is_point;
      is_tail = exponent_found tail parts.1.0 parts.1.1;
    })

pub has_digits : (text : List ℕ) (n : Decimal) → number_of text ≡ Some n → length text < 2 ^ 63
    → HasDigits n
has_digits text n e short =
    let h = number_found text n e in
    grind (arith, length-append, digits, h.is_tail)
  where
    digits : (tail exponent : List ℕ) → IsTail tail exponent
        → All IsAsciiDigit (without_leading_sign exponent)
    digits tail exponent (inl (none, empty)) =
        rw empty (All-nil IsAsciiDigit)
    digits tail exponent (inr (is, numeral)) = numeral.1

pub rounded_rounds : (n : Decimal) → Rounds n (rounded n)
rounded_rounds n =
    let f = 10 ^ length n.fraction in
    let g = 10 ^ negative_exponent n in
    let top = digits_value 10 (n.whole ++ n.fraction) * 10 ^ 6 * 10 ^ positive_exponent n in
    let ten : (k : ℕ) → 0 < 10 ^ k = λ k. one-le-pow k 10 (omega arith) in
    let some : 0 < f * g = grind (arith, mul-pos, ten) in
    grind (arith, le-div_iff_mul-le, le-min, min-le_left, min-le_right, mul_assoc)

rounds_same : (n : Decimal) (d e : ℕ) → Rounds n d → Rounds n e → d ≡ e
rounds_same n d e a b = omega (arith, b.greatest d a.bound a.at_most, a.greatest e b.bound b.at_most)

-- infinity begins with a letter, so it isn't a number
infinite_number : (text word : List ℕ) → map to_ascii_lowercase text ≡ byte "i" ∷ word
    → number_of text ≡ None
infinite_number text word h = grind (arith, and_right, lowercase_is, lt-leb, ne_eqb)

-- ---- The delay of a text.

named : (minus : Bool) (text : List ℕ) (delay : ℕ)
    → MatchBool minus (NamesZero text delay) (NamesSeconds text delay)
    → delay_after minus text ≡ Some delay
named true text delay (n, writes, zeros, none) =
    cc (number_read text n writes, cond-true _ _ _ ((zero_decides n).1 zeros))
named false text delay (inl (infinite, greatest)) = grind (arith, cond-true, infinite_decides)
named false text delay (inr (n, writes, rounds)) =
    cc (
      cond-false _ _ _ (false_from_ne_true (is_infinite text) (λ is. finite
          ((infinite_decides text).0 is))),
      number_read text n writes,
      rounds_same n (rounded n) delay (rounded_rounds n) rounds,
    )
  where
    finite : IsInfinite text → ⊥
    finite (inl e) = cc (number_read text n writes, infinite_number text (codes "nf") e)
    finite (inr e) = cc (number_read text n writes, infinite_number text (codes "nfinity") e)

zero_found : (text : List ℕ) (delay : ℕ) (o : Option Decimal) → number_of text ≡ o
    → option_and_then zero_of o ≡ Some delay → NamesZero text delay
zero_found text delay o is h2 = grind (arith, cond_some, number_found, zero_decides)

seconds_found : (text : List ℕ) (delay : ℕ) (o : Option Decimal) → number_of text ≡ o
    → option_map rounded o ≡ Some delay → (n : Decimal) × Writes text n × Rounds n delay
seconds_found text delay o is h2 = grind (arith, number_found, rounded_rounds)

found : (minus : Bool) (text : List ℕ) (delay : ℕ) → delay_after minus text ≡ Some delay
    → MatchBool minus (NamesZero text delay) (NamesSeconds text delay)
found minus text delay h = grind (arith, cond-false, cond-true, infinite_decides, seconds_found, zero_found)

module _ (text : List ℕ) where
  abbrev minus : Bool
  minus = starts_with_minus text

  abbrev unsigned : List ℕ
  unsigned = without_leading_sign text

  pub is_delay : (delay : Option ℕ) → delay ≡ delay_after minus unsigned → IsDelay text delay
  is_delay delay h = grind (arith, found, named)

  pub delay_of_is : IsDelay text (delay_of text)
  unfolding delay_of
  delay_of_is = is_delay (delay_of text) refl

  pub is_delay_of : (delay : Option ℕ) → IsDelay text delay → delay ≡ delay_of text
  unfolding delay_of
  is_delay_of (Some delay) h = sym (named minus unsigned delay h)
  is_delay_of None h = none (delay_of text) refl
    where
      none : (o : Option ℕ) → delay_after minus unsigned ≡ o → None ≡ o
      none None e = refl
      none (Some delay) e = absurd (h delay (found minus unsigned delay e))

pub delay_computed : (text : List ℕ) (delay : Option ℕ) → IsDelay text delay ↔ delay ≡ delay_of text
delay_computed text delay = (is_delay_of text delay, λ same. rw same (delay_of_is text))
