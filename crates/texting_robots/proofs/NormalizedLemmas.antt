-- Escaping, and absolute URLs in normal form.
use Rattle.std.proofs.Common.{◌≡◌, ◌≢◌, ◌<◌, ◌≤◌, ◌+◌, ◌^◌, ◌/◌, ◌∷◌, ◌++◌, ◌==◌, ◌||◌, ◌&&◌, ◌∙◌, ℕ, Bool}
use Rattle.std.proofs.Common.{All, IsAscii, List, [], true, false, Some, inl, inr, not, ap, append_assoc}
use Rattle.std.proofs.Common.{append-nil, arith, cond, decimal, drop, get_or, length, refl, slice_index, suc}
use Rattle.std.proofs.Common.{subst, sym, take, zero, take-append-drop}
use Rattle.std.specs.{List.list_any, List.prefix_len, Int.Bits.and_zero_r}
use Rattle.std.{proofs.Math.Bool.or-true, specs.Char.is_ascii_lowercase, specs.Char.is_ascii_uppercase}
use Rattle.std.proofs.lemmas.{Bool.Decides.nat_tests, Str.Ascii.IsAscii-nil, Fmt.decimal-digits_value}
use Rattle.std.proofs.lemmas.Bool.{agree_below, agree_below_at, and_parts, cases_Bool, cases_eq, cases_lt}
use Rattle.std.proofs.lemmas.Bool.{cond-false, cond-true, eq-eqb, le-ltb, lt-ltb, ne_eqb, not-true}
use Rattle.percent_encoding.specs.{AsciiSet.should_percent_encode, declared.ascii_set.AsciiSet.AsciiSet}
use Rattle.percent_encoding.proofs.PercentLemmas.{IsAscii-percent_encode}
use Rattle.percent_encoding.specs.Percent.{percent_encode, percent_encode_byte, encode_byte, IsKept}
use Rattle.texting_robots.specs.declared.escape.TheConstants.{ESCAPED}
use Rattle.texting_robots.specs.Escape.{is_escaped, escape_byte, escaped}
use Rattle.std.specs.Str.Parse.{IsNumeral, digits_value, without_leading_plus}
use Rattle.std.proofs.lemmas.List.Sums.{prefix_len-le-length, prefix_len_passes}
use Rattle.std.proofs.lemmas.Str.Parse.{numerals_by_value, tells_digits, without_leading_plus_none}
use Rattle.std.proofs.lemmas.List.{get_or_past, get_or-drop, get_or-take, length-take-le, drop-drop}
use Rattle.std.proofs.lemmas.List.{Concat.flat_map-append, Folds.prefix_len-append}
use Rattle.std.proofs.lemmas.List.Elements.{All-append, All-cons, All-head, All-nil, All-tail}
use Rattle.url.specs.declared.sets.TheConstants.{FORBIDDEN_DOMAIN, PATH}
use Rattle.url.specs.{declared.scheme.SchemeType.TheVariants.SpecialNotFile, Scheme.is_slash}
use Rattle.url.specs.{Path.IsSegment, Path.dot_count, Path.join_segments, Input.rsplit_once}
use Rattle.url.proofs.PathLemmas.{empty_segment, no_segments}
use Rattle.url.proofs.InputLemmas.{Passes, All-take-prefix_len}
use Rattle.texting_robots.specs.declared.byte_set.TheConstants.{UPPER}
use Rattle.texting_robots.specs.declared.normalized.TheConstants.{NAME, NUMBER, OPEN, SEGMENT}
use Rattle.texting_robots.specs.Internal.Normalized.{IsAuthority, begins_dotted, begins_plainly, kept_prefix}
use Rattle.texting_robots.specs.Internal.Normalized.{IsName, IsOther, IsPath, IsPort, Leaves, after, is_kept}

-- ---- The byte set in `escape.rt` escapes the bytes that the specification escapes.

same_ascii : (b : ℕ) → b < 128 → should_percent_encode ESCAPED b ≡ is_escaped b
unfolding should_percent_encode
same_ascii b low = agree_below_at (should_percent_encode ESCAPED) is_escaped 128 b refl low

same_high : (b : ℕ) → 128 ≤ b → should_percent_encode ESCAPED b ≡ is_escaped b
unfolding should_percent_encode
same_high b high = grind (arith, le-ltb, lt-ltb, or-true)

pub same_test : (b : ℕ) → should_percent_encode ESCAPED b ≡ is_escaped b
same_test b = grind (arith, cases_lt, same_ascii, same_high)

same_byte : (b : ℕ) → encode_byte ESCAPED b ≡ escape_byte b
unfolding percent_encode_byte
same_byte b = rw (same_test b) refl

pub encode_is_escaped : (bytes : List ℕ) → percent_encode ESCAPED bytes ≡ escaped bytes
unfolding percent_encode
encode_is_escaped [] = refl
encode_is_escaped (b ∷ bytes) = grind (arith, same_byte, encode_is_escaped bytes)

pub escaped_ascii : (bytes : List ℕ) → IsAscii (escaped bytes)
escaped_ascii bytes = subst IsAscii (encode_is_escaped bytes) (IsAscii-percent_encode ESCAPED bytes)

pub escaped_parts : (k : ℕ) (bytes : List ℕ)
    → escaped (take k bytes) ++ escaped (drop k bytes) ≡ escaped bytes
escaped_parts k bytes =
    sym (flat_map-append escape_byte (take k bytes) (drop k bytes)) ∙ ap escaped (take-append-drop k bytes)

pub escaped_plain : (bytes : List ℕ) → list_any is_escaped bytes ≡ false
    → escaped bytes ≡ bytes
escaped_plain [] plain = refl
escaped_plain (b ∷ bytes) plain = grind (arith, cases_Bool, escaped_plain bytes)

plain_low : (b : ℕ) → is_escaped b ≡ false → b < 128
plain_low b stays = grind (arith, cases_lt, le-ltb, lt-ltb, or-true)

pub plain_ascii : (bytes : List ℕ) → list_any is_escaped bytes ≡ false → IsAscii bytes
plain_ascii [] plain = IsAscii-nil
plain_ascii (b ∷ bytes) plain = grind (arith, cases_Bool, plain_low, plain_ascii bytes)

-- ---- Reading an absolute URL that `url` would leave unchanged, part by part.

pub none_past : (part : List ℕ) (b : ℕ) → 256 ≤ b → is_kept part b ≡ false
unfolding is_kept
none_past part b high = rw (get_or_past UPPER.now (b / 16) 0 (omega arith), and_zero_r) refl

abbrev pub kept_but : AsciiSet → (ℕ → Bool) → ℕ → Bool
kept_but set other b = not (should_percent_encode set b) && not (other b)

module _ (part : List ℕ) (set : AsciiSet) (other : ℕ → Bool)
    (same : agree_below (is_kept part) (kept_but set other) 256 ≡ true) where
  pub same_at : (b : ℕ) → is_kept part b ≡ kept_but set other b
  unfolding is_kept should_percent_encode
  same_at b = elim (cases_lt b 256) [
    | inl low ↦ agree_below_at (is_kept part) (kept_but set other) 256 b same low
    | inr high ↦ rw (none_past part b high, le-ltb b 128 (omega arith)) refl
  ]

  pub kept_all : (xs : List ℕ) → All (Passes (is_kept part)) xs
      → All (IsKept set) xs × All (λ b. other b ≡ false) xs
  kept_all xs passes =
      let each = λ (k d : ℕ) (inside : k < length xs).
      and_parts _ _ (sym (same_at (get_or xs k d)) ∙ passes k d inside) in
      (λ k d inside. not-true _ (each k d inside).0, λ k d inside. not-true _ (each k d inside).1)

-- a byte that is neither a dot, an escape nor a backslash, at the front of some segments
abbrev is_odd : ℕ → Bool
is_odd b = b == 46 || b == 37 || b == 92

longer : (b : ℕ) (segment : List ℕ) → b ≢ 47 → IsKept PATH b → is_odd b ≡ false
    → IsSegment SpecialNotFile segment → IsSegment SpecialNotFile (b ∷ segment)
unfolding dot_count
longer b segment inside kept plain is = record {
  escaped = All-cons (IsKept PATH) b segment kept is.escaped;
  whole = All-cons (λ x. is_slash SpecialNotFile x ≡ false) b segment (grind (arith, nat_tests)) is.whole;
  resolved = grind (arith, nat_tests);
}

open_segments : (xs ys : List ℕ) → All (IsKept PATH) xs → All (λ b. is_odd b ≡ false) xs
    → IsSegment SpecialNotFile ys
    → (s : List ℕ) × (segments : List (List ℕ)) × (xs ++ ys ≡ s ++ join_segments segments)
    × IsSegment SpecialNotFile s × All (IsSegment SpecialNotFile) segments
open_segments [] ys kept plain is = (ys, [], sym (append-nil ys), is, All-nil (IsSegment SpecialNotFile))
open_segments (b ∷ xs) ys kept plain is =
    let (s, segments, whole, first, each) =
    open_segments xs ys (All-tail (IsKept PATH) b xs kept) (All-tail (λ x. is_odd x ≡ false) b xs plain) is in
    elim (cases_eq b 47) [
      | inl slash ↦ (
        [],
        s ∷ segments,
        ap (λ x. x ∷ (xs ++ ys)) slash ∙ ap (λ t. 47 ∷ t) whole,
        empty_segment SpecialNotFile,
        All-cons (IsSegment SpecialNotFile) s segments first each,
      )
      | inr inside ↦ (
        b ∷ s,
        segments,
        ap (λ t. b ∷ t) whole,
        longer b s inside (All-head (IsKept PATH) b xs kept) (All-head (λ x. is_odd x ≡ false) b xs plain)
            first,
        each,
      )
    ]

passes_within : (p : ℕ → Bool) (n : ℕ) (text : List ℕ) → n ≤ prefix_len p text → All (Passes p) (take n text)
passes_within p n text within k d inside =
    let whole = length-take-le n text (omega (arith, prefix_len-le-length p text)) in
    let below : k < n = omega (arith, whole) in
    ap p (get_or-take n text k d below) ∙ prefix_len_passes p text k d (omega arith)

open_path : (n : ℕ) (text ys : List ℕ) → n ≤ prefix_len (is_kept OPEN.now) text
    → IsSegment SpecialNotFile ys → IsPath (47 ∷ take n text ++ ys)
unfolding is_kept should_percent_encode
open_path n text ys within is =
    let (kept, plain) = kept_all OPEN.now PATH is_odd refl (take n text)
    (passes_within (is_kept OPEN.now) n text within) in
    let (s, segments, whole, first, each) = open_segments (take n text) ys kept plain is in record {
      segments = s ∷ segments;
      joined = ap (λ t. 47 ∷ t) whole;
      each = All-cons (IsSegment SpecialNotFile) s segments first each;
    }

-- the first bytes, after their slash, of which none begins or continues a dot segment
pub open_read : (n : ℕ) (text : List ℕ) → get_or text 0 0 ≡ 47
    → n ≤ prefix_len (is_kept OPEN.now) (drop 1 text) + 1 → Leaves IsPath text (drop n text)
open_read zero text slash within = ([], refl, no_segments SpecialNotFile)
open_read (suc n) [] slash within = absurd (omega arith)
open_read (suc n) (b ∷ text) slash within = (
  47 ∷ take n text,
  rw slash (ap (λ t. 47 ∷ t) (sym (take-append-drop n text))),
  rw append-nil at (open_path n text [] (omega arith) (empty_segment SpecialNotFile)),
)

pub open_rest : (text : List ℕ) → get_or text 0 0 ≡ 47
    → Leaves IsPath text (after OPEN.now (drop 1 text))
open_rest [] slash = absurd (omega arith)
open_rest (b ∷ text) slash =
    open_read (suc (prefix_len (is_kept OPEN.now) text)) (b ∷ text) slash (omega arith)

-- these bytes, and the rest of the last segment
pub segment_read : (n : ℕ) (text : List ℕ) → get_or text 0 0 ≡ 47 → 0 < n
    → n ≤ prefix_len (is_kept OPEN.now) (drop 1 text) + 1
    → dot_count (kept_prefix SEGMENT.now (drop n text)) ≡ 0
    → Leaves IsPath text (after SEGMENT.now (drop n text))
unfolding is_kept should_percent_encode
segment_read zero text slash some within resolved = absurd (omega arith)
segment_read (suc n) [] slash some within resolved = absurd (omega arith)
segment_read (suc n) (b ∷ text) slash some within resolved =
    let last = kept_prefix SEGMENT.now (drop n text) in
    let (escaped, whole) = kept_all SEGMENT.now PATH (is_slash SpecialNotFile) refl last
    (All-take-prefix_len (is_kept SEGMENT.now) (drop n text)) in
    let is : IsSegment SpecialNotFile last = grind arith in (
      47 ∷ take n text ++ last,
      grind (arith, append_assoc, take-append-drop),
      open_path n text last (omega arith) is,
    )

pub undotted : (text : List ℕ) → begins_dotted text ≡ false
    → dot_count (kept_prefix SEGMENT.now text) ≡ 0
unfolding dot_count
undotted text plain = grind arith

open_byte : (n : ℕ) (text : List ℕ) → n < prefix_len (is_kept OPEN.now) text
    → begins_dotted (drop n text) ≡ false
unfolding is_kept should_percent_encode
open_byte n text within =
    let kept = sym (same_at OPEN.now PATH is_odd refl (get_or text n 0))
    ∙ prefix_len_passes (is_kept OPEN.now) text n 0 within in
    let plain = not-true _ (and_parts _ _ kept).1 in
    grind (arith, nat_tests, get_or-drop)

-- such a byte, where it isn't the last one before a segment's rest that begins a dot segment
pub open_end : (n : ℕ) (text : List ℕ) → get_or text 0 0 ≡ 47
    → n ≤ prefix_len (is_kept OPEN.now) (drop 1 text)
    → Leaves IsPath text (after SEGMENT.now (drop n text))
unfolding is_kept
open_end zero text slash within = ([], grind arith, no_segments SpecialNotFile)
open_end (suc n) [] slash within = absurd (omega arith)
open_end (suc n) (b ∷ text) slash within =
    segment_read (suc n) (b ∷ text) slash (omega arith) (omega arith) (undotted (drop n text)
    (open_byte n text (omega arith)))

pub path_more : (text rest more : List ℕ) → Leaves IsPath text rest → Leaves IsPath rest more
    → Leaves IsPath text more
path_more text rest more (front, cut, is) (back, cut_again, is_too) = (
  front ++ back,
  cut ∙ ap (λ t. front ++ t) cut_again ∙ sym (append_assoc front back more),
  record {
    segments = is.segments ++ is_too.segments;
    joined = (λ i. is.joined i ++ is_too.joined i)
        ∙ sym (flat_map-append (λ s. 47 ∷ s) is.segments is_too.segments);
    each = All-append (IsSegment SpecialNotFile) is.segments is_too.segments is.each is_too.each;
  },
)

pub decimal_read : (digits : List ℕ) (port : ℕ) → begins_plainly digits ≡ true
    → (IsNumeral 10 (without_leading_plus digits)
    × (digits_value 10 (without_leading_plus digits) < 2 ^ 16))
    × (port ≡ digits_value 10 (without_leading_plus digits)) → digits ≡ decimal port
decimal_read digits port plain parses =
    let no_plus : get_or digits 0 0 ≢ 43 = λ e. absurd (grind (arith, nat_tests)) in
    let read = rw (without_leading_plus_none digits no_plus) at parses in
    let some = read.0.0.1 in
    let first : get_or digits 0 0 ≡ 48 → length digits ≡ 1 = λ e. grind (arith, nat_tests) in
    cc (decimal-digits_value (numerals_by_value _ tells_digits) digits read.0.0.1 read.0.0.0 first (omega
    (arith, read.0.1)))

pub port_read : (own : ℕ) (text : List ℕ) → get_or text 0 0 ≡ 58
    → IsOther own (kept_prefix NUMBER.now (drop 1 text))
    → Leaves (IsPort own) text (after NUMBER.now (drop 1 text))
port_read own [] colon other = absurd (omega arith)
port_read own (b ∷ following) colon (port, digits, small, other) = (
  58 ∷ decimal port,
  ap (λ c. c ∷ following) colon ∙ ap (λ t. 58 ∷ t) (sym (take-append-drop _ following)
      ∙ ap (λ t. t ++ after NUMBER.now following) digits),
  (Some port, refl, (small, other)),
)

pub authority_read : (own : ℕ) (text rest : List ℕ)
    → is_ascii_lowercase (slice_index (rsplit_once 46 (kept_prefix NAME.now text)).1 0) ≡ true
    → Leaves (IsPort own) (after NAME.now text) rest → Leaves (IsAuthority own) text rest
unfolding is_kept should_percent_encode
authority_read own text rest letter (port, assembled, is_port) =
    let host = kept_prefix NAME.now text in
    let (allowed, small) = kept_all NAME.now FORBIDDEN_DOMAIN is_ascii_uppercase refl host
    (All-take-prefix_len (is_kept NAME.now) text) in
    let name : IsName host = grind arith in (
      host ++ port,
      sym (take-append-drop _ text) ∙ ap (λ t. host ++ t) assembled ∙ sym (append_assoc host port rest),
      grind arith,
    )
