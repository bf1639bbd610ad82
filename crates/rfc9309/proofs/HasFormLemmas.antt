-- Characters of the grammar, and tests of forms.
use Rattle.std.proofs.Common.{◌≡◌, true, List, ◌++◌, length, subst, append-nil, arith, false, bytes_eq, codes}
use Rattle.std.proofs.Common.{◌≢◌, inl, inr, ℕ, ◌≤◌, [], ◌∷◌, drop, sym, ap, ◌∙◌, ◌⊎◌, refl, ◌&&◌, Bool, ◌==◌}
use Rattle.std.specs.List.{AllByRecursion as Each, list_all, Contains, list_any, position_or_len}
use Rattle.std.specs.{Char.encode_utf8, Str.IsUtf8, Str.encode_utf8_all, Str.is_utf8}
use Rattle.std.proofs.lemmas.List.Folds.{list_all-append, list_any-from_Any}
use Rattle.std.proofs.lemmas.Bool.{Decides.nat_tests, and_parts, cases_lt, le-ltb, lt-ltb, cases_Bool}
use Rattle.std.proofs.lemmas.Bool.{eqb-true, not-true, or_cases}
use Rattle.std.proofs.Common.{append_assoc, reverse, suc, take-append-drop, ◌+◌}
use Rattle.std.proofs.lemmas.{List.drop_all, List.reverse-append, List.reverse-reverse}
use Rattle.std.proofs.lemmas.{Slice.Eq.bytes_eq-Decides}
use Rattle.std.proofs.lemmas.Str.{IsUtf8-append, IsUtf8-encode, IsUtf8-nil, IsUtf8-from_is_utf8, encode_ascii}
use Rattle.bstr.specs.Utf8.{code_of_2, code_of_3, code_of_4, continues, decoded, good, second}
use Rattle.bstr.proofs.lemmas.PieceLemmas.{value-1, value-6, value-9, value-12}
use Rattle.rfc9309.proofs.{SyntaxLemmas.many, SyntaxLemmas.each_if_all, ValueLemmas.identifier_byte}
use Rattle.safe_output.specs.Bytes.{after_byte, before_byte, from_byte, has, is_blank, trim_blanks}
use Rattle.safe_output.specs.Bytes.{trim_blanks_end, trim_blanks_start}
use Rattle.rfc9309.specs.LineTest.{is_comment_byte, is_comment_text, is_value_byte, is_value_text, colon}
use Rattle.rfc9309.specs.LineTest.{are_some, has_form, hash, is_digit, is_keyed, is_identifier_byte}
use Rattle.rfc9309.specs.LineTest.{is_number, is_pattern, is_product_token, lower, name_in, value_in}
use Rattle.bstr.proofs.{lemmas.SoundLemmas.SpellsChar-decoded}
use Rattle.texting_robots.proofs.Shared.{each_append}
use Rattle.rfc9309.specs.LineForms.{Form, IsFormOf, Empty, Agent, Rule, Delay, Sitemap, Other}
use Rattle.rfc9309.specs.Rfc9309 as rfc
use lib.Utf8.{scalar, scalars}

-- ---- The characters of the standard's grammar are UTF-8, and none of their bytes is `#`, a space or lower
-- than that. UTF-8 consists of such characters, if its bytes are in order.

abbrev pub IsCharByte : ℕ → Type 0
IsCharByte byte = (33 ≤ byte) × (byte ≢ 35)

pub record IsCharText (text : List ℕ) : Type 0 where
  pub bytes : Each IsCharByte text
  pub utf8 : IsUtf8 text

read_whole : (bytes : List ℕ) (c : ℕ) → decoded bytes ≡ good c (length bytes) → IsUtf8 bytes
read_whole bytes c e =
    let s = SpellsChar-decoded bytes c (ap (λ p. p.char) e) in
    let none : drop (decoded bytes).size bytes ≡ [] =
    drop_all (decoded bytes).size bytes (omega (arith, ap (λ p. p.size) e)) in
    let same : bytes ≡ encode_utf8 c =
    s.bytes ∙ ap (λ t. encode_utf8 c ++ t) none ∙ append-nil (encode_utf8 c) in
    subst IsUtf8 (sym same) (IsUtf8-encode c s.scalar)

tail_continues : (c : ℕ) → rfc.IsUtf8Tail c → continues c ≡ true
tail_continues c is = grind (arith, nat_tests)

one : (bytes : List ℕ) → rfc.IsUtf8OneNoctl bytes → IsCharText bytes
one (a ∷ []) is = record {
  bytes = grind arith;
  utf8 = read_whole (a ∷ []) a (value-1 1 a 0 0 0 (omega arith));
}
one _ is = absurd is

two : (bytes : List ℕ) → rfc.IsUtf8Two bytes → IsCharText bytes
two (a ∷ b ∷ []) is =
    let after : second a b ≡ true = grind (arith, nat_tests) in
    record {
      bytes = grind arith;
      utf8 =
          read_whole (a ∷ b ∷ []) (code_of_2 a b)
          (value-6 2 a b 0 0 (omega arith, omega arith, omega arith, after));
    }
two _ is = absurd is

three : (bytes : List ℕ) → rfc.IsUtf8Three bytes → IsCharText bytes
three (a ∷ b ∷ c ∷ []) is =
    let after : second a b ≡ true = grind (arith, nat_tests) in
    let tail = tail_continues c (omega arith) in
    record {
      bytes = grind arith;
      utf8 =
          read_whole (a ∷ b ∷ c ∷ []) (code_of_3 a b c)
          (value-9 3 a b c 0 (omega arith, omega arith, omega arith, after, tail));
    }
three _ is = absurd is

four : (bytes : List ℕ) → rfc.IsUtf8Four bytes → IsCharText bytes
four (a ∷ b ∷ c ∷ d ∷ []) is =
    let after : second a b ≡ true = grind (arith, nat_tests) in
    let third = tail_continues c (omega arith) in
    let fourth = tail_continues d (omega arith) in
    record {
      bytes = grind arith;
      utf8 =
          read_whole (a ∷ b ∷ c ∷ d ∷ []) (code_of_4 a b c d)
          (value-12 4 a b c d (omega arith, omega arith, omega arith, after, third, fourth));
    }
four _ is = absurd is

pub char_text : (bytes : List ℕ) → rfc.IsUtf8CharNoctl bytes → IsCharText bytes
char_text bytes h = grind (arith, four, one, three, two)

pub text_append : (text later : List ℕ) → IsCharText text → IsCharText later → IsCharText (text ++ later)
text_append text later is also = record {
  bytes = each_append _ text later is.bytes also.bytes;
  utf8 = IsUtf8-append text later is.utf8 also.utf8;
}

pub chars_text : (text : List ℕ) → rfc.IsMany rfc.IsUtf8CharNoctl text → IsCharText text
chars_text = many (record { bytes = tt; utf8 = IsUtf8-nil }) text_append char_text

wide : (c : ℕ) → scalar c ≡ true → 128 ≤ c → rfc.IsUtf8CharNoctl (encode_utf8 c)
unfolding encode_utf8
wide c is low = grind (arith, cases_lt, le-ltb, lt-ltb)

value_unit : (c : ℕ) → scalar c ≡ true → list_all is_value_byte (encode_utf8 c) ≡ true
    → rfc.IsUtf8CharNoctl (encode_utf8 c)
value_unit c is all = grind (arith, cases_lt, encode_ascii, wide)

comment_byte : (c : ℕ) → is_comment_byte c ≡ true → rfc.IsWs c ⊎ ((c ≡ 0x23) ⊎ (is_value_byte c ≡ true))
comment_byte c is = grind (arith, nat_tests)

comment_unit : (c : ℕ) → scalar c ≡ true → list_all is_comment_byte (encode_utf8 c) ≡ true
    → rfc.IsCommentUnit (encode_utf8 c)
comment_unit c is all = grind (arith, and_parts, cases_lt, comment_byte, encode_ascii, wide)

module _ (test : ℕ → Bool) (Part : List ℕ → Type 0)
    (unit : (c : ℕ) → scalar c ≡ true → list_all test (encode_utf8 c) ≡ true → Part (encode_utf8 c)) where
  units : (chars : List ℕ) → scalars chars ≡ true → list_all test (encode_utf8_all chars) ≡ true
      → rfc.IsMany Part (encode_utf8_all chars)
  units [] are all = record { units = []; each = tt; whole = refl }
  units (c ∷ chars) are all =
      let (is, more) = and_parts (scalar c) (scalars chars) are in
      let (first, later) =
      and_parts (list_all test (encode_utf8 c)) _ (sym (list_all-append test (encode_utf8 c) _) ∙ all) in
      let rest = units chars more later in
      record {
        units = encode_utf8 c ∷ rest.units;
        each = (unit c is first, rest.each);
        whole = ap (λ t. encode_utf8 c ++ t) rest.whole;
      }

  units_of : (text : List ℕ) → (is_utf8 text && list_all test text) ≡ true → rfc.IsMany Part text
  units_of text is =
      let (utf8, all) = and_parts _ _ is in
      let (chars, (are, same)) = IsUtf8-from_is_utf8 text utf8 in
      subst (rfc.IsMany Part) same (units chars are (ap (list_all test) same ∙ all))

pub value_text : (text : List ℕ) → is_value_text text ≡ true → rfc.IsMany rfc.IsUtf8CharNoctl text
value_text = units_of _ _ value_unit

pub comment_text : (text : List ℕ) → is_comment_text text ≡ true → rfc.IsMany rfc.IsCommentUnit text
comment_text = units_of is_comment_byte rfc.IsCommentUnit comment_unit

-- ---- A line that passes the test of a form has the form.

module _ (stop : ℕ) where
  pub next_place : (text : List ℕ)
      → 1 + position_or_len (λ b. b == stop) text ≡ suc (position_or_len (λ b. b == stop) text)
  next_place text = omega arith

  split : (text : List ℕ) → text ≡ before_byte stop text ++ from_byte stop text
  split text = sym (take-append-drop _ text)

  begins : (text : List ℕ) → (from_byte stop text ≡ []) ⊎ (from_byte stop text ≡ stop ∷ after_byte stop text)
  begins [] = inl refl
  begins (b ∷ text) = grind (arith, nat_tests, next_place, begins text)

  found : (text : List ℕ) → has stop text ≡ true → from_byte stop text ≡ stop ∷ after_byte stop text
  found [] is = cc
  found (b ∷ text) is = grind (arith, nat_tests, next_place, found text)

pub blank : (b : ℕ) → is_blank b ≡ true → rfc.IsWs b
blank b is = grind (arith, nat_tests)

abbrev IsBefore : (kept text : List ℕ) → Type 0
IsBefore kept text = (back : List ℕ) × Each rfc.IsWs back × (text ≡ kept ++ back)

pub leading : (text : List ℕ)
    → (front : List ℕ) × Each rfc.IsWs front × (text ≡ front ++ trim_blanks_start text)
leading [] = ([], tt, refl)
leading (b ∷ text) = elim (cases_Bool (is_blank b)) [
  | inl white ↦ let (front, all, whole) = leading _ in
      rw white ((b ∷ front, (blank b white, all), ap (λ t. b ∷ t) whole))
  | inr solid ↦ rw solid (([], tt, refl))
]

pub each_reversed : (P : ℕ → Type 0) (text : List ℕ) → Each P text → Each P (reverse text)
each_reversed P [] all = all
each_reversed P (b ∷ text) all =
    subst (Each P) (sym (reverse-append (b ∷ []) text))
    (each_append P (reverse text) (b ∷ []) (each_reversed P text all.1) (all.0, tt))

trailing : (text : List ℕ) → IsBefore (trim_blanks_end text) text
trailing text =
    let (front, all, whole) = leading (reverse text) in (
      reverse front,
      each_reversed rfc.IsWs front all,
      sym (reverse-reverse text) ∙ ap reverse whole ∙ reverse-append front (trim_blanks_start (reverse text)),
    )

record IsAround (text : List ℕ) : Type 0 where
  front : List ℕ
  back : List ℕ
  whole : text ≡ front ++ (trim_blanks text ++ back)
  front_blank : Each rfc.IsWs front
  back_blank : Each rfc.IsWs back

around : (text : List ℕ) → IsAround text
around text =
    let (front, all, whole) = leading text in
    let (back, after, rest) = trailing (trim_blanks_start text) in
    record {
      front = front;
      back = back;
      whole = whole ∙ ap (λ t. front ++ t) rest;
      front_blank = all;
      back_blank = after;
    }

named : (body : List ℕ) → has colon body ≡ true → body ≡ (around (before_byte colon body)).front
    ++ (name_in body ++ ((around (before_byte colon body)).back ++ colon ∷ after_byte colon body))
named body has = grind (arith, append_assoc, around, found, split)

identifier : (word : List ℕ) → are_some is_identifier_byte word ≡ true → rfc.IsIdentifier word
identifier word h = grind (arith, identifier_byte, each_if_all)

product_token : (value : List ℕ) → is_product_token value ≡ true → rfc.IsProductToken value
product_token value is = grind (arith, bytes_eq-Decides, identifier, or_cases)

pub pattern_with : (b c : ℕ) (text : List ℕ) → (b == c) ≡ true → is_value_text text ≡ true
    → rfc.IsPatternWith (c ∷ []) (b ∷ text)
pattern_with b c text same chars = grind (arith, eqb-true, value_text)

pattern : (value : List ℕ) → is_pattern value ≡ true → rfc.IsPattern value value ⊎ rfc.IsStarPattern value
pattern value h = grind (arith, and_parts, or_cases, pattern_with)

digit : (b : ℕ) → is_digit b ≡ true → rfc.IsDigitByte b
digit b is = grind (arith, nat_tests)

digits : (text : List ℕ) → are_some is_digit text ≡ true → rfc.IsDigits text
digits text h = grind (arith, digit, each_if_all)

number : (value : List ℕ) → is_number value ≡ true → rfc.IsNumber value
unfolding is_number
number value is = elim (or_cases _ _ is) [
  | inl whole ↦ inl (digits value whole)
  | inr parts ↦
      let (point, both) = and_parts _ _ parts in
      let (before, after) = and_parts _ _ both in
      inr (record {
        units = before_byte 0x2E value;
        fraction = after_byte 0x2E value;
        are_units = digits _ before;
        is_fraction = digits _ after;
        whole = split 0x2E _ ∙ ap (λ t. before_byte 0x2E value ++ t) (found 0x2E value point);
      })
]

not_listed : (name : List ℕ) (names : List (List ℕ)) → list_any (bytes_eq name) names ≡ false
    → Contains names name → ⊥
not_listed name names none (k, within, is) = grind (arith, bytes_eq-Decides, list_any-from_Any)

module _ (end : List ℕ) (nl : rfc.IsNl end) where
  eol : (blanks text : List ℕ) → Each rfc.IsWs blanks → is_comment_text (after_byte hash text) ≡ true
      → rfc.IsEol (blanks ++ (from_byte hash text ++ end))
  eol blanks text all is = grind (arith, begins, comment_text)

  pub keyed_passes : (word body : List ℕ) → is_keyed word body ≡ true
      → rfc.IsKeyed word (value_in body) (body ++ end)
  keyed_passes word body is =
      let (both, comment) = and_parts _ _ is in
      let (has, name) = and_parts _ _ both in
      let around_name = around (before_byte colon body) in
      let rest = after_byte colon body in
      let value = around (before_byte hash rest) in
      let valued : rest ≡ value.front ++ (value_in body ++ (value.back ++ from_byte hash rest)) =
      split hash rest ∙ ap (λ t. t ++ from_byte hash rest) value.whole ∙ simp append_assoc in
      record {
        margin = around_name.front;
        key = name_in body;
        blanks = around_name.back;
        gap = value.front;
        eol = value.back ++ (from_byte hash rest ++ end);
        whole = ap (λ t. t ++ end) (named body has
            ∙ ap (λ t. around_name.front ++ (name_in body ++ (around_name.back ++ (colon ∷ t)))) valued)
            ∙ simp append_assoc;
        margin_blank = around_name.front_blank;
        is_key = (bytes_eq-Decides (lower (name_in body)) word).0 name;
        blanks_blank = around_name.back_blank;
        gap_blank = value.front_blank;
        is_eol = eol value.back rest value.back_blank comment;
      }

  pub agent_passes : (body : List ℕ) → has_form Agent body ≡ true
      → rfc.IsStartGroupLine (value_in body) (body ++ end)
  agent_passes body is = grind (arith, and_parts, keyed_passes, product_token)

  pub delay_passes : (body : List ℕ) → has_form Delay body ≡ true
      → rfc.IsDelayLine (rfc.Delay (value_in body)) (body ++ end)
  delay_passes body is = grind (arith, and_parts, keyed_passes, number)

  rule : (word body : List ℕ) → is_keyed word body ≡ true → is_pattern (value_in body) ≡ true
      → rfc.IsRuleWith word (value_in body) (body ++ end)
      ⊎ (rfc.IsStarPattern (value_in body) × rfc.IsKeyed word (value_in body) (body ++ end))
  rule word body key value =
      let line = keyed_passes word body key in
      elim (pattern (value_in body) value) [
        | inl plain ↦ inl (record { value = value_in body; is_pattern = plain; is_line = line })
        | inr star ↦ inr (star, line)
      ]

  pub form_passes : (form : Form) (body : List ℕ) → has_form form body ≡ true → IsFormOf form (body ++ end)
  form_passes Empty body is =
      let (blanks, comment) = and_parts _ _ is in
      subst rfc.IsEol
      (sym (ap (λ t. t ++ end) (split hash body) ∙ append_assoc (before_byte hash body) _ end))
      (eol _ body (each_if_all rfc.IsWs is_blank blank _ blanks) comment)
  form_passes Agent body is = (value_in body, agent_passes body is)
  form_passes Rule body is =
      let (key, value) = and_parts _ _ is in
      elim (or_cases _ _ key) [
        | inl allow ↦ (rfc.Allow (value_in body), rule (codes "allow") body allow value)
        | inr disallow ↦ (rfc.Disallow (value_in body), rule (codes "disallow") body disallow value)
      ]
  form_passes Delay body is = (rfc.Delay (value_in body), delay_passes body is)
  form_passes Sitemap body is =
      let (key, value) = and_parts _ _ is in
      (value_in body, (value_text _ value, keyed_passes _ body key))
  form_passes Other body is =
      let (front, value) = and_parts _ _ is in
      let (has, name) = and_parts _ _ front in
      let (letters, other) = and_parts _ _ name in
      let around_name = around (before_byte colon body) in
      record {
        margin = around_name.front;
        name = name_in body;
        blanks = around_name.back;
        value = after_byte colon body;
        nl = end;
        whole = ap (λ t. t ++ end) (named body has) ∙ simp append_assoc;
        margin_blank = around_name.front_blank;
        is_name = identifier _ letters;
        is_other = not_listed (lower (name_in body)) rfc.names_read (not-true _ other);
        blanks_blank = around_name.back_blank;
        is_value = comment_text _ value;
        is_nl = nl;
      }
