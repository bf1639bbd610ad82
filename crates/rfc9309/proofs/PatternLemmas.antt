-- Normal forms, and the pattern of a path: it matches here what the path matches by the standard, and its
-- bytes are visible.
use Rattle.std.specs.Prelude.{slice_index}
use Rattle.std.proofs.Common.{◌≡◌, ◌≢◌, ap, ◌↔◌, ℕ, ◌+◌, ◌*◌, ◌<◌, ◌==◌, ◌&&◌, ◌||◌, Bool, true, false, List}
use Rattle.std.proofs.Common.{[], ◌∷◌}
use Rattle.std.proofs.Common.{◌++◌, ◌∙◌, arith, codes, drop, if◌then◌else◌, inl, inr, length, length-append}
use Rattle.std.proofs.Common.{nat_eq, refl, subst, sym}
use Rattle.std.specs.Char.{digit_value, is_ascii_hexdigit, to_ascii_uppercase}
use Rattle.std.specs.{Fmt.digit_glyph, List.AllByRecursion as Each, List.ends_with, List.list_any, Str.IsUtf8}
use Rattle.std.proofs.lemmas.Bool.{agree_below, agree_below_at, and_parts, cases_Bool, eqb-true, false≢true}
use Rattle.std.proofs.lemmas.Bool.{ltb-true, or_left, Decides.nat_tests}
use Rattle.texting_robots.specs.{Escape.is_escaped, Pattern.Matches}
use Rattle.texting_robots.proofs.Shared.{each_append}
use Rattle.rfc9309.specs.Matching.{IsMatch, Reading, all_stay, has_dollar, in_rule, in_uri, is_ended, is_kept}
use Rattle.rfc9309.specs.Matching.{is_unreserved, normal_escape, normal_from, normal_octet, normal_path}
use Rattle.rfc9309.specs.Matching.{normal_uri, octets, without_end}
use Rattle.rfc9309.specs.{StandardTarget.reading_of}
use Rattle.rfc9309.specs.StandardReading.{front_of, pattern_of, written_pattern}
use Rattle.rfc9309.specs.declared.normal.Side.{Side}
use Rattle.rfc9309.specs.declared.normal.Side.TheVariants as side
use Rattle.rfc9309.proofs.NormalLemmas.{begins_escape, by_escapes, end_of, escape_first, filling, hex_low}
use Rattle.rfc9309.proofs.NormalLemmas.{octet_first, restricts}
use Rattle.rfc9309.proofs.{SyntaxLemmas.each_weaker}
use Rattle.rfc9309.proofs.ValueLemmas.{IsVisible, visible_utf8}

-- an unreserved octet, or `%`
abbrev is_plain : ℕ → Bool
is_plain b = is_unreserved b || b == 37

plain_low : (b : ℕ) → is_plain b ≡ true → b < 128
plain_low b is = grind (arith, nat_tests)

digit_plain : (b : ℕ) → is_ascii_hexdigit b ≡ true → is_plain (to_ascii_uppercase b) ≡ true
digit_plain b is =
    rw is at (agree_below_at (λ c. is_ascii_hexdigit c && is_plain (to_ascii_uppercase c)) is_ascii_hexdigit
    128 b refl (hex_low b is))

-- a test that fails for such octets
module _ (test : ℕ → Bool) (none : agree_below (λ c. is_plain c && test c) (λ c. false) 128 ≡ true) where
  abbrev pub AllFail : List ℕ → Type 0
  AllFail text = Each (λ b. test b ≡ false) text

  plain_fails : (b : ℕ) → is_plain b ≡ true → test b ≡ false
  plain_fails b is =
      rw is at (agree_below_at (λ c. is_plain c && test c) (λ c. false) 128 b none (plain_low b is))

  glyph_fails : (d : ℕ) → d < 16 → test (digit_glyph true d) ≡ false
  glyph_fails d below =
      plain_fails _ (agree_below_at (λ d. is_plain (digit_glyph true d)) (λ d. true) 16 d refl below)

  escape_fails : (high low : ℕ) → is_ascii_hexdigit high ≡ true → is_ascii_hexdigit low ≡ true
      → AllFail (normal_escape high low)
  escape_fails high low one two =
      let v = digit_value high * 16 + digit_value low in
      elim (cases_Bool (is_unreserved v)) [
        | inl is ↦ rw is (plain_fails v (or_left _ _ is), tt)
        | inr isnt ↦ rw isnt (
          plain_fails 37 refl,
          (plain_fails _ (digit_plain high one), (plain_fails _ (digit_plain low two), tt)),
        )
      ]

  octet_fails : (stays : Reading) (in_query : Bool) (b : ℕ)
      → (is_kept stays in_query b ≡ true → test b ≡ false) → AllFail (normal_octet stays in_query b)
  octet_fails stays in_query b kept = elim (cases_Bool (is_kept stays in_query b)) [
    | inl is ↦ rw is (kept is, tt)
    | inr isnt ↦ rw isnt (
      plain_fails 37 refl,
      (glyph_fails _ (omega arith), (glyph_fails _ (omega arith), tt)),
    )
  ]

  -- it fails for all octets of a normal form, if it does for those that are kept
  pub normal_fails : (stays : Reading) (P : ℕ → Type 0)
      → ((in_query : Bool) (b : ℕ) → P b → is_kept stays in_query b ≡ true → test b ≡ false)
      → (in_query : Bool) (text : List ℕ) → Each P text → AllFail (normal_from stays in_query text)
  unfolding normal_from
  normal_fails stays P kept =
      by_escapes (λ in_query text. Each P text → AllFail (normal_from stays in_query text))
      (λ in_query all. tt)
      (λ in_query b text isnt later all.
      rw (octet_first stays in_query b text isnt)
      (each_append _ _ _ (octet_fails stays in_query b (kept in_query b all.0)) (later all.1)))
      (λ in_query high low text one two later all.
      rw (escape_first high low text one two stays in_query)
      (each_append _ _ _ (escape_fails high low one two) (later all.1.1.1)))

pub none_any : (test : ℕ → Bool) (text : List ℕ) → Each (λ b. test b ≡ false) text
    → list_any test text ≡ false
none_any test [] all = refl
none_any test (b ∷ text) all = rw (all.0, none_any test text all.1)

all_units : (text : List ℕ) → Each (λ b. Unit {0}) text
all_units [] = tt
all_units (b ∷ text) = (tt, all_units text)

abbrev is_dollar : ℕ → Bool
is_dollar b = b == 36

kept_free : (stays : Reading) (in_query : Bool) (b : ℕ) → is_kept (in_rule stays) in_query b ≡ true
    → is_dollar b ≡ false
kept_free stays in_query b is = elim (cases_Bool (b == 36)) [
  | inl same ↦
      let wrong : is_kept (in_rule stays) in_query 36 ≡ true =
      subst (λ c. is_kept (in_rule stays) in_query c ≡ true) (eqb-true b 36 same) is in
      absurd (false≢true wrong)
  | inr other ↦ other
]

normal_plain : (stays : Reading) (path : List ℕ) → has_dollar (normal_path stays path) ≡ false
normal_plain stays path =
    none_any is_dollar _ (normal_fails is_dollar refl (in_rule stays)
    (λ b. Unit {0}) (λ in_query b _. kept_free stays in_query b) false _ (all_units _))

abbrev pub ending : Bool → List ℕ
ending ended = if ended then codes "$" else []

ending_is : (ended : Bool) → ending ended ≡ end_of ended
ending_is true = refl
ending_is false = refl

pub pattern_matches : (stays : Reading) (path uri : List ℕ)
    → Matches (pattern_of stays path) (normal_uri stays uri) ↔ IsMatch stays path uri
pattern_matches stays path uri =
    let fill = filling (normal_path stays path) (end_of (is_ended path)) (normal_uri stays uri)
    (normal_plain stays path) in
    rw (ending_is (is_ended path)) (
      λ m.
          let (strings, rest, whole, n) = fill.0 m in
          record { strings = strings; rest = rest; whole = whole; end = (restricts _ rest).0 n },
      λ is. fill.1 (is.strings, is.rest, is.whole, (restricts _ is.rest).1 is.end),
    )

pub pattern_octets : (stays : Reading) (path : List ℕ)
    → length (pattern_of stays path) ≡ octets stays path
pattern_octets stays path = grind (arith, cases_Bool, length-append)

octet_some : (stays : Reading) (in_query : Bool) (b : ℕ) → 0 < length (normal_octet stays in_query b)
octet_some stays in_query b = grind (arith, cases_Bool)

escape_some : (high low : ℕ) → 0 < length (normal_escape high low)
escape_some high low = grind (arith, cases_Bool)

normal_some : (stays : Reading) (in_query : Bool) (text : List ℕ) → 0 < length text
    → 0 < length (normal_from stays in_query text)
normal_some stays =
    by_escapes (λ in_query text. 0 < length text → 0 < length (normal_from stays in_query text))
    (λ in_query some. absurd (omega (arith, some)))
    (λ in_query b text isnt later some.
    rw (octet_first stays in_query b text isnt)
    (omega (arith, octet_some stays in_query b, length-append {A = ℕ})))
    (λ in_query high low text one two later some.
    rw (escape_first high low text one two stays in_query)
    (omega (arith, escape_some high low, length-append {A = ℕ})))

pub pattern_some : (stays : Reading) (b : ℕ) (path : List ℕ) → 0 < length (pattern_of stays (b ∷ path))
unfolding without_end is_ended
pattern_some stays b [] = elim (cases_Bool (b == 36)) [
  | inl is ↦ rw is (omega (arith, length-append {A = ℕ}))
  | inr isnt ↦ rw isnt (omega (
    arith,
    normal_some (in_rule stays) false (b ∷ []) (omega arith),
    length-append {A = ℕ},
  ))
]
pattern_some stays b (c ∷ path) =
    omega (
      arith,
      normal_some (in_rule stays) false (without_end (b ∷ c ∷ path)) (omega arith),
      length-append {A = ℕ},
    )

without_ended : (P : ℕ → Type 0) (path : List ℕ) → Each P path → Each P (without_end path)
unfolding without_end
without_ended P [] all = tt
without_ended P (b ∷ []) all = grind (arith, cases_Bool)
without_ended P (b ∷ c ∷ path) all = (all.0, without_ended P (c ∷ path) all.1)

kept_unescaped : (in_query : Bool) (b : ℕ) → is_kept (in_rule all_stay) in_query b ≡ true
    → is_escaped b ≡ false
kept_unescaped in_query b is =
    let low = ltb-true b 128 (and_parts _ _ is).0 in
    rw is at (agree_below_at (λ c. is_kept (in_rule all_stay) in_query c && is_escaped c) (λ c. false) 128 b
    refl low)

pattern_fails : (test : ℕ → Bool) → agree_below (λ c. is_plain c && test c) (λ c. false) 128 ≡ true
    → test 36 ≡ false → (P : ℕ → Type 0)
    → ((in_query : Bool) (b : ℕ) → P b → is_kept (in_rule all_stay) in_query b ≡ true → test b ≡ false)
    → (path : List ℕ) → Each P path → Each (λ b. test b ≡ false) (pattern_of all_stay path)
pattern_fails test none dollar P kept path all =
    each_append _ _ _ (normal_fails test none _ P kept false _ (without_ended P path all))
    (at (is_ended path))
  where
    at : (ended : Bool) → Each (λ b. test b ≡ false) (ending ended)
    at true = (dollar, tt)
    at false = tt

-- its bytes aren't escaped, so they are visible
pub written_unescaped : (path : List ℕ) → Each (λ b. is_escaped b ≡ false) (written_pattern path)
written_unescaped [] = (refl, (refl, tt))
written_unescaped (b ∷ path) =
    pattern_fails is_escaped refl refl
    (λ b. Unit {0}) (λ in_query b is. kept_unescaped in_query b) (b ∷ path) (all_units (b ∷ path))

unescaped_visible : (b : ℕ) → is_escaped b ≡ false → IsVisible b
unescaped_visible b is = grind (arith, nat_tests)

pub written_visible : (path : List ℕ) → Each IsVisible (written_pattern path)
written_visible path = each_weaker _ IsVisible unescaped_visible _ (written_unescaped path)

abbrev pub is_hash : ℕ → Bool
is_hash b = b == 35

-- none of them begins a comment, if none of the path does
pub written_bare : (path : List ℕ) → Each (λ b. is_hash b ≡ false) path
    → Each (λ b. is_hash b ≡ false) (written_pattern path)
written_bare [] bare = (refl, (refl, tt))
written_bare (b ∷ path) bare =
    pattern_fails is_hash refl refl
    (λ b. is_hash b ≡ false) (λ in_query b no is. no) (b ∷ path) bare

pub written_some : (path : List ℕ) → written_pattern path ≢ []
written_some [] = λ e. cc
written_some (b ∷ path) = λ e.
    let some = pattern_some all_stay b path in absurd (omega (arith, some, ap length e))

kept_in_uri : (in_query : Bool) (b : ℕ) → is_kept (in_uri all_stay) in_query b ≡ true → is_escaped b ≡ false
kept_in_uri in_query b is =
    let low = ltb-true b 128 (and_parts _ _ is).0 in
    rw is at (agree_below_at (λ c. is_kept (in_uri all_stay) in_query c && is_escaped c) (λ c. false) 128 b
    refl low)

uri_unescaped : (uri : List ℕ) → Each (λ b. is_escaped b ≡ false) (normal_from (in_uri all_stay) true uri)
uri_unescaped uri =
    normal_fails is_escaped refl (in_uri all_stay) (λ b. Unit {0}) (λ in_query b _. kept_in_uri in_query b)
    true _ (all_units _)

-- ---- a normal form octet by octet and escape by escape

module _ (stays : Reading) where
  pub next_octet : (text : List ℕ) → 0 < length text → begins_escape text ≡ false
      → normal_from stays true text
      ≡ normal_octet stays true (slice_index text 0) ++ normal_from stays true (drop 1 text)
  next_octet [] some isnt = absurd (omega (arith, some))
  next_octet (b ∷ text) some isnt = octet_first stays true b text isnt

  pub next_escape : (text : List ℕ) → 2 < length text → begins_escape text ≡ true
      → (is_ascii_hexdigit (slice_index text 1) ≡ true) × (is_ascii_hexdigit (slice_index text 2) ≡ true)
      × (normal_from stays true text
      ≡ normal_escape (slice_index text 1) (slice_index text 2) ++ normal_from stays true (drop 3 text))
  next_escape [] more is = absurd (omega (arith, more))
  next_escape (b ∷ []) more is = absurd (omega (arith, more))
  next_escape (b ∷ high ∷ []) more is = absurd (omega (arith, more))
  next_escape (b ∷ high ∷ low ∷ text) more is =
      let (percent, digits) = and_parts _ _ is in
      let (one, two) = and_parts _ _ digits in (
        one,
        two,
        subst (λ c. normal_from stays true (c ∷ high ∷ low ∷ text)
            ≡ normal_escape high low ++ normal_from stays true text) (sym (eqb-true b 37 percent))
            (escape_first high low text one two stays true),
      )

  pub nothing_left : (text : List ℕ) → length text ≡ 0 → normal_from stays true text ≡ []
  unfolding normal_from
  nothing_left [] none = refl
  nothing_left (b ∷ text) none = absurd (omega (arith, none))

  same_from : ((in_query : Bool) (b : ℕ) → normal_octet stays in_query b ≡ normal_octet stays true b)
      → (in_query : Bool) (text : List ℕ) → normal_from stays in_query text ≡ normal_from stays true text
  unfolding normal_from
  same_from same =
      by_escapes (λ in_query text. normal_from stays in_query text ≡ normal_from stays true text)
      (λ in_query. refl)
      (λ in_query b text isnt later.
      rw (octet_first stays in_query b text isnt, octet_first stays true b text isnt, same in_query b, later))
      (λ in_query high low text one two later.
      rw (escape_first high low text one two stays in_query)
      (rw (escape_first high low text one two stays true, later)))

-- the query makes no difference, since all reserved octets stay
pub from_start : (side : Side) (text : List ℕ)
    → normal_from (reading_of side) true text ≡ normal_from (reading_of side) false text
from_start side.Rule text = sym (same_from _ (λ in_query b. refl) false text)
from_start side.Uri text = sym (same_from _ (λ in_query b. refl) false text)

if_cons : (ended : Bool) (b : ℕ) (front text : List ℕ)
    → (if ended then b ∷ front else b ∷ text) ≡ b ∷ (if ended then front else text)
if_cons ended b front text = grind arith

next_front : (b c : ℕ) (path : List ℕ) → front_of (b ∷ c ∷ path) ≡ b ∷ front_of (c ∷ path)
next_front b c path = grind (arith, if_cons)

pub front_same : (path : List ℕ) → front_of path ≡ without_end path
unfolding without_end
front_same [] = refl
front_same (b ∷ []) = grind (arith, nat_tests)
front_same (b ∷ c ∷ path) = next_front b c path ∙ ap (λ t. b ∷ t) (front_same (c ∷ path))

next_ends : (b c : ℕ) (path : List ℕ)
    → ends_with nat_eq (b ∷ c ∷ path) (codes "$") ≡ ends_with nat_eq (c ∷ path) (codes "$")
next_ends b c path = grind arith

ends_so : (path : List ℕ) → ends_with nat_eq path (codes "$") ≡ is_ended path
unfolding is_ended
ends_so [] = refl
ends_so (b ∷ []) = grind (arith, nat_tests)
ends_so (b ∷ c ∷ path) = next_ends b c path ∙ ends_so (c ∷ path)

pub pattern_parts : (path : List ℕ) (ended : Bool) → ended ≡ ends_with nat_eq path (codes "$")
    → pattern_of all_stay path ≡ normal_from (reading_of side.Rule) true (front_of path) ++ ending ended
pattern_parts path ended is = rw (is, front_same path, ends_so path, from_start side.Rule (without_end path))

pub uri_utf8 : (uri : List ℕ) → IsUtf8 (normal_from (reading_of side.Uri) true uri)
uri_utf8 uri = visible_utf8 _ (each_weaker _ IsVisible unescaped_visible _ (uri_unescaped uri))
