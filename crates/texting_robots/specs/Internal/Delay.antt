-- The delay of a text as a function, which finds one part after the other.
use Rattle.std.specs.Prelude.{ℕ, ◌+◌, ◌-◌, ◌*◌, ◌/◌, ◌^◌, ◌<◌, ◌==◌, ◌&&◌, ◌||◌, nat_lt, min, Bool, true, []}
use Rattle.std.specs.Prelude.{false, List, ◌∷◌, ◌++◌, All, Option, Some, None, if◌then◌else◌, codes, drop}
use Rattle.std.specs.Prelude.{length}
use Rattle.std.specs.{Char.IsAsciiDigit, Char.is_ascii_digit, List.list_all, List.prefix_len, List.take_while}
use Rattle.std.specs.{Option.option_and_then, Option.option_map, Str.byte, Str.str_eq_ignore_ascii_case}
use Rattle.std.specs.Str.Parse.{digits_value, starts_with_minus, without_leading_sign}
use Rattle.texting_robots.specs.Delay.{Decimal, greatest_delay, negative_exponent, positive_exponent}

abbrev pub is_infinite : List ℕ → Bool
is_infinite text = str_eq_ignore_ascii_case text (codes "inf") || str_eq_ignore_ascii_case text
    (codes "infinity")

abbrev pub digits_in_front : List ℕ → List ℕ
digits_in_front text = take_while is_ascii_digit text

abbrev pub after_digits : List ℕ → List ℕ
after_digits text = drop (prefix_len is_ascii_digit text) text

abbrev pub fraction_in_front : List ℕ → List ℕ
fraction_in_front [] = []
fraction_in_front (b ∷ text) = if b == byte "." then digits_in_front text else []

abbrev pub after_fraction : List ℕ → List ℕ
after_fraction [] = []
after_fraction (b ∷ text) = if b == byte "." then after_digits text else b ∷ text

abbrev pub is_numeral : List ℕ → Bool
is_numeral text = nat_lt 0 (length text) && list_all is_ascii_digit text

-- the exponent of a number, from what follows its digits
abbrev pub exponent_of : List ℕ → Option (List ℕ)
exponent_of [] = Some []
exponent_of (b ∷ text) =
    if ((b == byte "e") || (b == byte "E")) && is_numeral (without_leading_sign text) then Some text else None

abbrev pub number_with : List ℕ → List ℕ → Option (List ℕ) → Option Decimal
number_with whole fraction exponent =
    if nat_lt 0 (length (whole ++ fraction))
    then option_map (λ e. record { whole = whole; fraction = fraction; exponent = e }) exponent else None

abbrev pub number_of : List ℕ → Option Decimal
number_of text =
    let rest = after_digits text in
    number_with (digits_in_front text) (fraction_in_front rest) (exponent_of (after_fraction rest))

pub record HasDigits (n : Decimal) : Type 0 where
  pub whole : All IsAsciiDigit n.whole
  pub fraction : All IsAsciiDigit n.fraction
  pub exponent : All IsAsciiDigit (without_leading_sign n.exponent)
  pub short : length n.whole + length n.fraction < 2 ^ 63

abbrev pub bounded : ℕ → ℕ
bounded n = min n greatest_delay

-- how many digits, counted from the first, are whole microseconds
abbrev pub places : Decimal → ℕ
places n = length n.whole + 6 + positive_exponent n - negative_exponent n

abbrev pub rounded : Decimal → ℕ
rounded n =
    let micros = digits_value 10 (n.whole ++ n.fraction) * 10 ^ 6 * 10 ^ positive_exponent n in
    bounded (micros / (10 ^ length n.fraction * 10 ^ negative_exponent n))

abbrev pub is_zero : Decimal → Bool
is_zero n = list_all (λ digit. digit == byte "0") (n.whole ++ n.fraction)

abbrev pub zero_of : Decimal → Option ℕ
zero_of n = if is_zero n then Some 0 else None

-- the delay of a text without its sign; the first argument is true if that is a minus
abbrev pub delay_after : Bool → List ℕ → Option ℕ
delay_after true unsigned = option_and_then zero_of (number_of unsigned)
delay_after false unsigned =
    if is_infinite unsigned then Some greatest_delay else option_map rounded (number_of unsigned)

unfoldable pub delay_of : List ℕ → Option ℕ
delay_of text = delay_after (starts_with_minus text) (without_leading_sign text)
