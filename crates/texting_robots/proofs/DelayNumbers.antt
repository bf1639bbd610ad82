-- The number that digits denote: bounded, cut off and rounded.
use Rattle.std.proofs.Common.{◌≡◌, inl, inr, ℕ, zero, suc, ◌+◌, ◌-◌, ◌*◌, ◌/◌, ◌^◌, ◌<◌, ◌≤◌, List, [], ◌∷◌}
use Rattle.std.proofs.Common.{◌++◌, All, length, get_or, take, drop, replicate, refl, sym, ap, ◌∙◌, add-one}
use Rattle.std.proofs.Common.{append_assoc, arith, drop-cons}
use Rattle.std.specs.Char.{IsAsciiDigit, digit_value}
use Rattle.std.specs.Str.{byte, Parse.digits_value, Parse.digits_value_after}
use Rattle.std.proofs.Math.Nat.{div-div-eq-div-mul, div-one, mul-div_cancel, mul-div-mul_right, mul_assoc}
use Rattle.std.proofs.Math.Nat.{mul-le-mul_right, one-le-pow, pow-le-pow_right, pow-suc, pow-zero}
use Rattle.std.proofs.lemmas.{Int.Digits.digits_value_more, List.Elements.All-append, Str.digit_value_digit}
use Rattle.std.proofs.lemmas.{Nat.div-mul-add, List.length-append, List.places as listed, List.take-replicate}
use Rattle.std.proofs.lemmas.{Bool.cases_lt, Nat.pow-add, List.drop_all, List.same_lists, List.take_all}
use Rattle.texting_robots.specs.Delay.{Decimal, greatest_delay, negative_exponent, positive_exponent}
use Rattle.texting_robots.specs.Internal.Delay.{HasDigits, bounded, places, rounded}

abbrev after : ℕ → List ℕ → ℕ
after n ds = digits_value_after 10 n ds

abbrev value : List ℕ → ℕ
value ds = digits_value 10 ds

bound_first : (n : ℕ) (ds : List ℕ) → bounded (after (bounded n) ds) ≡ bounded (after n ds)
bound_first n [] = omega arith
bound_first n (d ∷ ds) =
    grind (arith, bound_first (bounded n * 10 + digit_value d) ds, bound_first (n * 10 + digit_value d) ds)

pub digit_there : (ds : List ℕ) (i : ℕ) → All IsAsciiDigit ds → i < length ds
    → byte "0" ≤ get_or ds i 0
digit_there ds i digits within = (digits i 0 within).0

pub one_more_digit : (n : ℕ) (ds : List ℕ) (i : ℕ) → All IsAsciiDigit ds → i < length ds
    → bounded (after (bounded (bounded (n * 10) + (get_or ds i 0 - byte "0"))) (drop (i + 1) ds))
    ≡ bounded (after n (drop i ds))
one_more_digit n ds i digits within =
    let d = get_or ds i 0 in
    let digit = digit_value_digit d (digits i 0 within) in
    let same : bounded (bounded (n * 10) + (d - 48)) ≡ bounded (n * 10 + digit_value d) =
    omega (arith, digit) in
    rw (same, add-one, drop-cons ds i 0) (bound_first (n * 10 + digit_value d) (drop (suc i) ds))

pub all_digits_read : (n : ℕ) (ds : List ℕ) (i r : ℕ) → bounded (after n (drop i ds)) ≡ r
    → length ds ≤ i
    → n ≤ greatest_delay → n ≡ r
all_digits_read n ds i r e end bound = grind (arith, drop_all)

after-append : (n : ℕ) (xs ys : List ℕ) → after n (xs ++ ys) ≡ after (after n xs) ys
after-append n [] ys = refl
after-append n (x ∷ xs) ys = after-append (n * 10 + digit_value x) xs ys

abbrev zeros : ℕ → List ℕ
zeros k = replicate k (byte "0")

after_zeros : (n k : ℕ) → after n (zeros k) ≡ n * 10 ^ k
after_zeros n zero = omega arith
after_zeros n (suc k) = after_zeros (n * 10 + 0) k ∙ rw (pow-suc 10 k) (omega arith)

value_zeros : (ds : List ℕ) (k : ℕ) → value (ds ++ zeros k) ≡ value ds * 10 ^ k
value_zeros ds k = after-append 0 ds (zeros k) ∙ after_zeros (value ds) k

take_parts : (n : ℕ) (xs ys : List ℕ) → take n xs ++ take (n - length xs) ys ≡ take n (xs ++ ys)
take_parts n xs ys = grind (arith, listed, same_lists)

cut_off : (ds : List ℕ) → All IsAsciiDigit ds → (k : ℕ)
    → value ds / 10 ^ k ≡ value (take (length ds - k) ds)
cut_off ds digits zero = grind (arith, div-one, pow-zero, take_all)
cut_off ds digits (suc k) =
    ap (λ x. value ds / x) (pow-suc 10 k)
    ∙ sym (div-div-eq-div-mul (value ds) (10 ^ k) 10)
    ∙ ap (λ x. x / 10) (cut_off ds digits k)
    ∙ elim (cases_lt k (length ds)) [
      | inl more ↦ (let i = length ds - suc k in
          let next : length ds - k ≡ i + 1 = omega arith in
          let digit = digit_value_digit (get_or ds i 0) (digits i 0 (omega arith)) in
          let small : digit_value (get_or ds i 0) < 10 = omega (arith, digit) in
          rw (next, digits_value_more 10 ds i (omega arith))
          (div-mul-add (value (take i ds)) 10 (digit_value (get_or ds i 0)) small))
      | inr none ↦ (let one : length ds - k ≡ 0 = omega arith in
          let other : length ds - suc k ≡ 0 = omega arith in
          rw (one, other) refl)
    ]

-- the digits up to the position, with zeros for missing ones, are the number rounded down
at_position : (n : Decimal) → All IsAsciiDigit (n.whole ++ n.fraction) → let ds = n.whole ++ n.fraction in
    value ds * 10 ^ 6 * 10 ^ positive_exponent n / (10 ^ length n.fraction * 10 ^ negative_exponent n)
    ≡ value (take (places n) ds) * 10 ^ (places n - length ds)
at_position n digits = grind (arith, length-append, at)
  where
    at : (ds : List ℕ) → All IsAsciiDigit ds → (w f up down : ℕ) → length ds ≡ w + f → let p =
        w + 6 + up - down in
        value ds * 10 ^ 6 * 10 ^ up / (10 ^ f * 10 ^ down) ≡ value (take p ds) * 10 ^ (p - length ds)
    at ds digits w f up down size =
        let m = value ds in
        let p = w + 6 + up - down in
        let a = 6 + up in
        let b = f + down in
        ap (λ x. x / (10 ^ f * 10 ^ down))
        (mul_assoc m (10 ^ 6) (10 ^ up) ∙ ap (λ x. m * x) (sym (pow-add 10 6 up)))
        ∙ ap (λ x. m * 10 ^ a / x) (sym (pow-add 10 f down))
        ∙ elim (cases_lt a b) [
          | inl less ↦ (let missing : p - length ds ≡ 0 = omega arith in
              let position : length ds - (b - a) ≡ p = omega arith in
              let parts : b ≡ (b - a) + a = omega arith in
              let cut : value (take p ds) ≡ value (take p ds) * 10 ^ 0 = rw (pow-zero 10) (omega arith) in
              ap (λ i. m * 10 ^ a / 10 ^ i) parts ∙ ap (λ x. m * 10 ^ a / x) (pow-add 10 (b - a) a)
              ∙ mul-div-mul_right m (10 ^ (b - a)) (one-le-pow a 10 (omega arith))
              ∙ cut_off ds digits (b - a) ∙ ap (λ i. value (take i ds)) position
              ∙ cut ∙ ap (λ i. value (take p ds) * 10 ^ i) (sym missing))
          | inr more ↦ (let missing : a - b ≡ p - length ds = omega arith in
              let all : ds ≡ take p ds = sym (take_all p ds (omega arith)) in
              let parts : a ≡ (a - b) + b = omega arith in
              ap (λ i. m * 10 ^ i / 10 ^ b) parts ∙ ap (λ x. m * x / 10 ^ b) (pow-add 10 (a - b) b)
              ∙ ap (λ x. x / 10 ^ b) (sym (mul_assoc m (10 ^ (a - b)) (10 ^ b)))
              ∙ mul-div_cancel (m * 10 ^ (a - b)) (one-le-pow b 10 (omega arith))
              ∙ ap (λ xs. value xs * 10 ^ (a - b)) all ∙ ap (λ i. value (take p ds) * 10 ^ i) missing)
        ]

far : (v k : ℕ) → 20 ≤ k → bounded (v * 10 ^ 20) ≡ bounded (v * 10 ^ k)
far zero k more = omega arith
far (suc v) k more =
    let ten : 0 < 10 = omega arith in
    let some : 1 ≤ suc v = omega arith in
    let long : 10 ^ 20 ≤ 10 ^ k = pow-le-pow_right ten more in
    grind (arith, mul-le-mul_right)

-- twenty zeros after the digits are enough, also for a position past them
twenty : (ds : List ℕ) (p : ℕ) → length ds + 20 ≤ greatest_delay
    → bounded (value (take (bounded p) (ds ++ zeros 20)))
    ≡ bounded (value (take p ds) * 10 ^ (p - length ds))
twenty ds p room = elim (cases_lt (length ds + 20) p) [
  | inl beyond ↦ (let long = length-append ds (zeros 20) in
      let all : take (bounded p) (ds ++ zeros 20) ≡ ds ++ zeros 20 =
      grind (arith, take_all) in
      let here : take p ds ≡ ds = take_all p ds (omega arith) in
      rw (all, value_zeros ds 20, here) (far (value ds) (p - length ds) (omega arith)))
  | inr within ↦ (let same : bounded p ≡ p = omega arith in
      let missing = take-replicate (p - length ds) 20 (byte "0") (omega arith) in
      cc (take_parts p ds (zeros 20), value_zeros (take p ds) (p - length ds)))
]

joined : (xs ys zs : List ℕ)
    → bounded (after (bounded (after (bounded (after 0 xs)) ys)) zs) ≡ bounded (value (xs ++ (ys ++ zs)))
joined xs ys zs = grind (arith, after-append, bound_first)

pub micros_rounded : (n : Decimal) (p : ℕ) → HasDigits n → p ≡ bounded (places n)
    → let left = p - length n.whole in
    let whole = bounded (after 0 (take p n.whole)) in
    bounded (after (bounded (after whole (take left n.fraction)))
    (take (left - length n.fraction) (zeros 20))) ≡ rounded n
micros_rounded n p has position =
    let ds = n.whole ++ n.fraction in
    let left = p - length n.whole in
    let missing = take (left - length n.fraction) (zeros 20) in
    let room : length ds + 20 ≤ greatest_delay =
    omega (arith, length-append n.whole n.fraction, has.short) in
    let parts : take p n.whole ++ (take left n.fraction ++ missing) ≡ take p (ds ++ zeros 20) =
    grind (arith, append_assoc, take_parts) in
    cc (
      joined (take p n.whole) (take left n.fraction) missing,
      twenty ds (places n) room,
      at_position n (All-append IsAsciiDigit n.whole n.fraction has.whole has.fraction),
    )
