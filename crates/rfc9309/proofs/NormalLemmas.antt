-- Normal forms of URIs. On them the library's matching is that of the standard.
use Rattle.std.specs.Prelude.{slice_index}
use Rattle.std.proofs.Common.{◌≡◌, ◌↔◌, ℕ, ◌+◌, ◌*◌, ◌<◌, ◌==◌, ◌&&◌, ◌||◌, ltb, Bool, true, false, inl, inr}
use Rattle.std.proofs.Common.{List, [], ◌∷◌, ◌++◌, refl, sym, ap, ◌∙◌, subst, arith, append-nil, append_assoc}
use Rattle.std.proofs.Common.{drop, not, suc, take}
use Rattle.std.specs.{Char.digit_value, Char.is_ascii_alphanumeric, Char.is_ascii_hexdigit, List.list_all}
use Rattle.std.specs.List.{position_or_len, prefix_len}
use Rattle.std.specs.{Char.is_ascii_lowercase, Char.to_ascii_uppercase, Fmt.digit_glyph}
use Rattle.std.proofs.lemmas.Bool.{agree_below, agree_below_at, and_parts, and_right, both_ways, cases_Bool}
use Rattle.std.proofs.lemmas.Bool.{eqb-true, ltb-true, not-true, or_parts, Decides.nat_tests}
use Rattle.std.proofs.lemmas.Bool.{and_left, cases_lt, not-false}
use Rattle.std.proofs.lemmas.{List.append-nil}
use Rattle.safe_output.specs.Bytes.{before_byte}
use Rattle.texting_robots.specs.{Escape.escaped}
use Rattle.texting_robots.specs.Internal.ByteSet.{is_kept as is_in}
use Rattle.texting_robots.proofs.Shared.{none_past}
use Rattle.texting_robots.specs.Pattern.{Matches, MatchesWith, dollar, star}
use Rattle.rfc9309.specs.Comparable.{has_odd_escape, is_normal, is_uri_octet, IsPlainPath}
use Rattle.rfc9309.specs.Matching.{Reading, all_stay, in_rule, in_uri, is_escape, is_kept, is_unreserved}
use Rattle.rfc9309.specs.Matching.{normal_escape, normal_from, normal_octet, normal_uri, filled}
use Rattle.rfc9309.specs.StandardTarget.{ends_authority}
use Rattle.rfc9309.specs.declared.normal.TheConstants.{PLAIN, RULE}
use Rattle.rfc9309.specs.declared.target.TheConstants.{AUTHORITY}
use Rattle.rfc9309.specs.Matching.{IsMatch, first_of, has_dollar, is_ended, later_of, without_end}

pub hex_low : (b : ℕ) → is_ascii_hexdigit b ≡ true → b < 128
hex_low b is = grind (arith, nat_tests)

hex_octet : (b : ℕ) → is_ascii_hexdigit b ≡ true → is_uri_octet b ≡ true
hex_octet b is = let letter : is_ascii_alphanumeric b ≡ true = grind (arith, nat_tests) in rw letter

hex_not : (test : ℕ → Bool) (b : ℕ)
    → agree_below (λ c. is_ascii_hexdigit c && test c) (λ c. false) 128 ≡ true
    → is_ascii_hexdigit b ≡ true → test b ≡ false
hex_not test b none is = grind (arith, agree_below_at, hex_low)

abbrev pub begins_escape : List ℕ → Bool
begins_escape text = is_escape (slice_index text 0) (slice_index text 1) (slice_index text 2)

-- what holds of the empty text, and with an octet or an escape before a text, holds of each text
module _ (P : Bool → List ℕ → Type 0) (none : (in_query : Bool) → P in_query [])
    (octet : (in_query : Bool) (b : ℕ) (text : List ℕ) → begins_escape (b ∷ text) ≡ false
    → P (in_query || b == 63) text → P in_query (b ∷ text))
    (escape : (in_query : Bool) (high low : ℕ) (text : List ℕ) → is_ascii_hexdigit high ≡ true
    → is_ascii_hexdigit low ≡ true → P in_query text → P in_query (37 ∷ high ∷ low ∷ text)) where
  pub by_escapes : (in_query : Bool) (text : List ℕ) → P in_query text
  by_escapes in_query [] = none in_query
  by_escapes in_query (b ∷ []) = grind (arith, and_right)
  by_escapes in_query (b ∷ c ∷ []) = grind (arith, and_right, by_escapes (in_query || b == 63) (c ∷ []))
  by_escapes in_query (b ∷ high ∷ low ∷ text) = elim (cases_Bool (is_escape b high low)) [
    | inl is ↦
        let (percent, digits) = and_parts _ _ is in
        let (one, two) = and_parts _ _ digits in
        subst (λ b. P in_query (b ∷ high ∷ low ∷ text)) (sym (eqb-true b 37 percent))
        (escape in_query high low text one two (by_escapes in_query text))
    | inr isnt ↦
        octet in_query b (high ∷ low ∷ text) isnt (by_escapes (in_query || b == 63) (high ∷ low ∷ text))
  ]

pub octet_first : (stays : Reading) (in_query : Bool) (b : ℕ) (text : List ℕ)
    → begins_escape (b ∷ text) ≡ false
    → normal_from stays in_query (b ∷ text)
    ≡ normal_octet stays in_query b ++ normal_from stays (in_query || b == 63) text
unfolding normal_from
octet_first stays in_query b [] isnt = sym (append-nil _)
octet_first stays in_query b (c ∷ []) isnt = refl
octet_first stays in_query b (high ∷ low ∷ text) isnt = rw isnt

abbrev has_odd_digits : ℕ → ℕ → Bool
has_odd_digits high low =
    (is_ascii_lowercase high || is_ascii_lowercase low)
    || is_unreserved (digit_value high * 16 + digit_value low)

module _ (high low : ℕ) (text : List ℕ) (one : is_ascii_hexdigit high ≡ true)
    (two : is_ascii_hexdigit low ≡ true) where
  pub escape_first : (stays : Reading) (in_query : Bool) → normal_from stays in_query (37 ∷ high ∷ low ∷ text)
      ≡ normal_escape high low ++ normal_from stays in_query text
  unfolding normal_from
  escape_first stays in_query = rw (one, two)

  escape_odd : has_odd_escape (37 ∷ high ∷ low ∷ text) ≡ (has_odd_digits high low || has_odd_escape text)
  escape_odd = rw (one, two, hex_not (λ c. c == 37) _ refl one, hex_not (λ c. c == 37) low refl two)

octet_stays : (stays : Reading) (in_query : Bool) (b : ℕ) (rest text : List ℕ)
    → normal_octet stays in_query b ++ rest ≡ b ∷ text → (is_kept stays in_query b ≡ true) × (rest ≡ text)
octet_stays stays in_query b rest text = elim (cases_Bool (is_kept stays in_query b)) [
  | inl is ↦ rw is (λ e. (refl, (cc)))
  | inr other ↦
      let percent : 37 ≡ b → false ≡ true =
      λ e. sym (subst (λ c. is_kept stays in_query c ≡ false) (sym e) other) in
      rw other (λ e. let first : 37 ≡ b = cc in absurd (both_ways _ refl (percent first)))
]

not_lowercase : (b : ℕ) → to_ascii_uppercase b ≡ b → is_ascii_lowercase b ≡ false
not_lowercase b same = grind (arith, nat_tests)

uppercase : (b : ℕ) → is_ascii_lowercase b ≡ false → to_ascii_uppercase b ≡ b
uppercase b is = grind (arith, nat_tests)

escape_stays : (high low : ℕ) (rest text : List ℕ) → normal_escape high low ++ rest ≡ 37 ∷ high ∷ low ∷ text
    → (has_odd_digits high low ≡ false) × (rest ≡ text)
escape_stays high low rest text =
    elim (cases_Bool (is_unreserved (digit_value high * 16 + digit_value low))) [
      | inl is ↦ rw is (λ e.
          let same : digit_value high * 16 + digit_value low ≡ 37 = cc in
          absurd (both_ways _ refl (subst (λ c. is_unreserved c ≡ true) same is)))
      | inr other ↦ rw other (λ e.
          let first : to_ascii_uppercase high ≡ high = cc in
          let second : to_ascii_uppercase low ≡ low = cc in
          (rw (not_lowercase _ first, not_lowercase low second), (cc)))
    ]

octet_low : (b : ℕ) → is_uri_octet b ≡ true → b < 128
octet_low b is = grind (arith, nat_tests)

kept_octets : (in_query : Bool) (b : ℕ) → b < 128 → is_kept (in_uri all_stay) in_query b ≡ is_uri_octet b
kept_octets in_query b low = agree_below_at (is_kept (in_uri all_stay) in_query) is_uri_octet 128 b refl low

octet_same : (in_query : Bool) (b : ℕ) → is_uri_octet b ≡ true
    → normal_octet (in_uri all_stay) in_query b ≡ b ∷ []
octet_same in_query b is = rw (kept_octets in_query b (octet_low b is) ∙ is)

fixed : (in_query : Bool) (uri : List ℕ) → normal_from (in_uri all_stay) in_query uri ≡ uri
    → (list_all is_uri_octet uri ≡ true) × (has_odd_escape uri ≡ false)
fixed =
    by_escapes (λ in_query uri. normal_from (in_uri all_stay) in_query uri ≡ uri
    → (list_all is_uri_octet uri ≡ true) × (has_odd_escape uri ≡ false)) (λ in_query e. (refl, refl))
    (λ in_query b text isnt later e.
    let (is, rest) =
    octet_stays (in_uri all_stay) in_query b _ text
    (sym (octet_first (in_uri all_stay) in_query b text isnt) ∙ e) in
    let (all, even) = later rest in
    let octet = sym (kept_octets in_query b (ltb-true b 128 (and_parts (ltb b 128) _ is).0)) ∙ is in
    (rw (octet, all), rw (isnt, even)))
    (λ in_query high low text one two later e.
    let (digits, rest) =
    escape_stays high low _ text (sym (escape_first high low text one two (in_uri all_stay) in_query) ∙ e) in
    let (all, even) = later rest in
    (rw (hex_octet high one, hex_octet low two, all), escape_odd high low text one two ∙ rw (digits, even)))

escape_same : (high low : ℕ) → has_odd_digits high low ≡ false
    → normal_escape high low ≡ 37 ∷ high ∷ low ∷ []
escape_same high low even = grind (arith, or_parts, uppercase)

normal_same : (in_query : Bool) (uri : List ℕ) → list_all is_uri_octet uri ≡ true
    → has_odd_escape uri ≡ false → normal_from (in_uri all_stay) in_query uri ≡ uri
unfolding normal_from
normal_same =
    by_escapes (λ in_query uri. list_all is_uri_octet uri ≡ true → has_odd_escape uri ≡ false
    → normal_from _ in_query uri ≡ uri) (λ in_query all even. refl)
    (λ in_query b text isnt later all even.
    let (one, rest) = and_parts _ _ all in
    octet_first (in_uri all_stay) _ b text isnt
    ∙ rw (octet_same _ b one) (ap (λ t. b ∷ t) (later rest (or_parts _ _ even).1)))
    (λ in_query high low text one two later all even.
    let (digits, no_more) = or_parts _ _ (sym (escape_odd high low text one two) ∙ even) in
    let (_, rest) = and_parts _ _ (and_parts _ _ all).1 in
    escape_first high low text one two _ _
    ∙ rw (escape_same high low digits) (ap (λ t. 37 ∷ high ∷ low ∷ t) (later rest no_more)))

pub normal_uris : (uri : List ℕ) → (normal_uri all_stay uri ≡ uri) ↔ (is_normal uri ≡ true)
normal_uris uri = grind (arith, and_parts, fixed, normal_same, not-true)

-- a byte in one of this crate's sets passes the test
module _ (set : List ℕ) (test : ℕ → Bool)
    (passed : agree_below (λ b. is_in set b && not (test b)) (λ b. false) 256 ≡ true) where
  in_set : (b : ℕ) → is_in set b ≡ true → test b ≡ true
  in_set b is = elim (cases_lt b 256) [
    | inl low ↦ not-false (test b) (rw is at (agree_below_at
        (λ b. is_in set b && not (test b)) (λ b. false) 256 b passed low))
    | inr high ↦ absurd (both_ways _ (none_past set b high) is)
  ]

octets : (b : ℕ) → (is_in PLAIN.now b ≡ true → is_uri_octet b && not (b == 37) ≡ true)
    × (is_in RULE.now b ≡ true → not (b == 37) && is_kept (in_rule all_stay) true b ≡ true)
    × (is_in AUTHORITY.now b ≡ true → not (ends_authority b) ≡ true)
unfolding is_in
octets b = (
  in_set PLAIN.now (λ b. is_uri_octet b && not (b == 37)) refl b,
  in_set RULE.now (λ b. not (b == 37) && is_kept (in_rule all_stay) true b) refl b,
  in_set AUTHORITY.now (λ b. not (ends_authority b)) refl b,
)

one_more : (n : ℕ) → 1 + n ≡ suc n
one_more n = omega arith

pub plain_skipped : (text : List ℕ)
    → is_normal (drop (prefix_len (is_in PLAIN.now) text) text) ≡ is_normal text
plain_skipped [] = refl
plain_skipped (b ∷ text) = elim (cases_Bool (is_in PLAIN.now b)) [
  | inl is ↦
      let (octet, other) = and_parts (is_uri_octet b) _ ((octets b).0 is) in
      rw (is, octet, not-true (b == 37) other) (simp one_more (plain_skipped text))
  | inr isnt ↦ rw isnt refl
]

pub rule_run : (text : List ℕ) → (let n = prefix_len (is_in RULE.now) text in
    normal_from (in_rule all_stay) true text
    ≡ take n text ++ normal_from (in_rule all_stay) true (drop n text))
rule_run [] = refl
rule_run (b ∷ text) = elim (cases_Bool (is_in RULE.now b)) [
  | inl is ↦
      let (other, kept) = and_parts (not (b == 37)) _ ((octets b).1 is) in
      octet_first (in_rule all_stay) true b text (and_left (b == 37) _ (not-true _ other))
      ∙ rw (kept, is) (simp one_more (ap (λ t. b ∷ t) (rule_run text)))
  | inr isnt ↦ rw isnt refl
]

pub authority_split : (text : List ℕ) → position_or_len ends_authority text
    ≡ prefix_len (is_in AUTHORITY.now) text
    + position_or_len ends_authority (drop (prefix_len (is_in AUTHORITY.now) text) text)
authority_split [] = refl
authority_split (b ∷ text) = elim (cases_Bool (is_in AUTHORITY.now b)) [
  | inl is ↦ rw (is, (octets b).2 is) (simp one_more (omega (arith, authority_split text)))
  | inr isnt ↦ rw isnt (omega arith)
]

not_hash : (b : ℕ) → is_uri_octet b ≡ true → (b == 35) ≡ false
not_hash b is = grind (arith, nat_tests)

pub no_fragment : (text : List ℕ) → list_all is_uri_octet text ≡ true → before_byte 35 text ≡ text
no_fragment [] all = refl
no_fragment (b ∷ text) all =
    let (one, rest) = and_parts (is_uri_octet b) _ all in
    rw (not_hash b one) (simp one_more (ap (λ t. b ∷ t) (no_fragment text rest)))

pub filling : (q tail t : List ℕ) → has_dollar q ≡ false → MatchesWith true (q ++ tail) t
    ↔ ((strings : List (List ℕ)) × (rest : List ℕ) × (t ≡ filled q strings ++ rest)
    × MatchesWith true tail rest)
unfolding MatchesWith filled
filling [] tail t free = grind arith
filling (b ∷ q) tail t free =
    let (not_end, no_later) = or_parts _ _ free in
    elim (cases_Bool (b == star)) [
      | inl is ↦ rw is (
        λ (s, (front, e), m).
            let (strings, rest, f, n) = (filling q tail s no_later).0 m in (
              front ∷ strings,
              rest,
              e ∙ ap (λ x. front ++ x) f ∙ sym (append_assoc front _ rest),
              n,
            ),
        λ (strings, rest, e, m). (
          filled q _ ++ rest,
          (first_of strings, e ∙ append_assoc _ _ rest),
          (filling q tail _ no_later).1 (later_of strings, rest, refl, m),
        ),
      )
      | inr other ↦ rw (other, not_end) (
        λ (s, e, m).
            let (strings, rest, f, n) = (filling q tail s no_later).0 m in
            (strings, rest, e ∙ ap (λ x. b ∷ x) f, n),
        λ (strings, rest, e, m).
            (filled q strings ++ rest, e, (filling q tail _ no_later).1 (strings, rest, refl, m)),
      )
    ]

abbrev pub end_of : Bool → List ℕ
end_of true = dollar ∷ []
end_of false = []

pub escaped_parts : (path : List ℕ) → escaped path ≡ escaped (without_end path) ++ end_of (is_ended path)
unfolding is_ended without_end
escaped_parts [] = refl
escaped_parts (b ∷ []) = grind (arith, append-nil, cases_Bool, eqb-true)
escaped_parts (b ∷ c ∷ path) = grind (arith, append_assoc, escaped_parts (c ∷ path))

pub restricts : (ended : Bool) (rest : List ℕ)
    → MatchesWith true (end_of ended) rest ↔ (ended ≡ true → rest ≡ [])
unfolding MatchesWith
restricts ended rest = grind arith

pub glyph_plain : (d : ℕ) → (digit_glyph true d == dollar) ≡ false
glyph_plain d = grind (arith, nat_tests)

pub escaped_plain : (q : List ℕ) → has_dollar q ≡ false → has_dollar (escaped q) ≡ false
escaped_plain [] free = refl
escaped_plain (b ∷ q) free = grind (arith, glyph_plain, escaped_plain q)

pub matches_so : (stays : Reading) (path uri : List ℕ) → normal_uri stays uri ≡ uri
    → IsPlainPath stays path → Matches (escaped path) uri ↔ IsMatch stays path uri
matches_so stays path uri same plain = grind (arith, escaped_parts, escaped_plain, filling, restricts)
