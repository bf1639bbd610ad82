-- `trimmed` computes the trim of a raw value, and the trim is unique.
use Rattle.std.proofs.Common.{◌≡◌, ℕ, zero, suc, ◌+◌, ◌≤◌, ◌<◌, ◌-◌, Bool, true, false, cond, inl, inr, List}
use Rattle.std.proofs.Common.{[], ◌∷◌, ◌++◌, length, take, drop, sym, refl, ap, ◌∙◌, append_assoc, ◌==◌, not}
use Rattle.std.proofs.Common.{append-nil, arith, bytes_eq, IsTrue, Option, Some, None, length-append}
use Rattle.std.proofs.Common.{slice_get, get_or}
use Rattle.std.proofs.{Math.Seq.drop-nil, Math.Utf8.scalars, lemmas.Option.slice_get-get_or}
use Rattle.std.specs.List.{AllByRecursion as Each, prefix_len}
use Rattle.std.specs.Str.{str_to_ascii_lowercase, IsUtf8, encode_utf8_all}
use Rattle.std.specs.Char.{is_ascii_graphic, is_whitespace, encode_utf8, eq_ignore_ascii_case}
use Rattle.std.proofs.lemmas.Bool.{and_parts, cases_Bool, cond-true, cond-false, Decides.nat_tests}
use Rattle.std.proofs.lemmas.List.{append_cancel_right, drop_all, drop_at, drop-append-le, drop-drop}
use Rattle.std.proofs.lemmas.List.{length-drop, length-take, take-append-drop, take-append-le, take_all}
use Rattle.std.proofs.lemmas.List.{take_at, take_more}
use Rattle.std.proofs.lemmas.Str.{encode_ascii, encodes-append, IsUtf8-encode, IsCharBoundary-start}
use Rattle.bstr.specs.Utf8.{Decoded, decoded, good, or_replacement, pieces, spans_from, IsLastPiece}
use Rattle.bstr.specs.Trim.{kept_start, kept_end, trim_start_by, trim_end_by}
use Rattle.bstr.proofs.lemmas.PieceLemmas.{piece-bounds, spans-first, spans-last, spans-nil, pieces-append}
use Rattle.bstr.proofs.lemmas.PieceLemmas.{pieces-step, pieces-nil, StartsClean}
use Rattle.bstr.proofs.lemmas.{EncodeLemmas.decoded-encode, SoundLemmas.SpellsChar-decoded}
use Rattle.bstr.proofs.lemmas.TrimLemmas.{kept_end-snoc}
use lib.Utf8.{low_scalar, scalar}
use Rattle.texting_robots.specs.{Trim.IsSpaces, Trim.IsTrimOf, Statement.IsBlank}
use Rattle.texting_robots.specs.Internal.Statement.{trimmed, hash, region_of, value_of}

abbrev first_char : List ℕ → ℕ
first_char bytes = or_replacement (decoded bytes).char

abbrev following : List ℕ → List ℕ
following bytes = drop (decoded bytes).size bytes

-- induction over UTF-8 units
by_units : (P : List ℕ → Type 0) → P []
    → ((bytes : List ℕ) → 0 < length bytes → P (following bytes) → P bytes)
    → (bytes : List ℕ) → P bytes
by_units P none more bytes = at (length bytes) bytes (omega arith)
  where
    at : (n : ℕ) (bytes : List ℕ) → length bytes ≤ n → P bytes
    at n [] le = none
    at zero (b ∷ rest) le = absurd (omega arith)
    at (suc n) (b ∷ rest) le =
        let bounds = piece-bounds (b ∷ rest) (omega arith) in
        more (b ∷ rest) (omega arith) (at n _ (simp length-drop (omega arith)))

pub white_is_scalar : (c : ℕ) → is_whitespace c ≡ true → scalar c ≡ true
white_is_scalar c white = low_scalar c (grind (arith, nat_tests))

written : (bytes : List ℕ) → is_whitespace (first_char bytes) ≡ true
    → bytes ≡ encode_utf8 (first_char bytes) ++ following bytes
written bytes = at (decoded bytes).char refl
  where
    at : (char : Option ℕ) → (decoded bytes).char ≡ char
        → is_whitespace (or_replacement char) ≡ true
        → bytes ≡ encode_utf8 (first_char bytes) ++ following bytes
    at None is white = absurd (grind (arith, nat_tests))
    at (Some c) is white = rw is (SpellsChar-decoded bytes c is).bytes

-- ---- The start of a value.

shifted : (k n off n' off' : ℕ) (ps : List Decoded) → n' ≡ k + n → off' ≡ k + off
    → kept_start is_whitespace n' (spans_from off' ps)
    ≡ k + kept_start is_whitespace n (spans_from off ps)
unfolding kept_start spans_from
shifted k n off n' off' [] long far = long
shifted k n off n' off' (p ∷ ps) long far =
    grind (arith, cases_Bool, shifted k n (off + p.size) n' (off' + p.size) ps long)

abbrev from_start : List ℕ → List ℕ
from_start bytes = trim_start_by is_whitespace bytes

start_step : (bytes : List ℕ) → 0 < length bytes
    → from_start bytes ≡ cond (is_whitespace (first_char bytes)) (from_start (following bytes)) bytes
unfolding kept_start
start_step bytes some =
    let bounds = piece-bounds bytes some in
    rw (spans-first bytes 0 some) (at (is_whitespace (first_char bytes)) _ _
    (shifted (decoded bytes).size (length (following bytes)) 0 _ _ (pieces (following bytes))
    (simp length-drop (omega arith)) (omega arith)))
  where
    at : (white : Bool) (k j : ℕ) → k ≡ (decoded bytes).size + j
        → drop (cond white k 0) bytes ≡ cond white (drop j (following bytes)) bytes
    at true k j e = ap (λ k. drop k bytes) e ∙ sym (drop-drop j (decoded bytes).size bytes)
    at false k j e = refl

pub each_append : {X : Type 0} (P : X → Type 0) (xs ys : List X) → Each P xs
    → Each P ys → Each P (xs ++ ys)
each_append P [] ys all more = more
each_append P (x ∷ xs) ys all more = (all.0, each_append P xs ys all.1 more)

abbrev AllWhite : List ℕ → Type 0
AllWhite chars = Each (λ char. IsTrue (is_whitespace char)) chars

encode_some : (c : ℕ) → 0 < length (encode_utf8 c)
unfolding encode_utf8
encode_some c = grind (arith, nat_tests)

start_char : (c : ℕ) (rest : List ℕ) → scalar c ≡ true → from_start (encode_utf8 c ++ rest)
    ≡ cond (is_whitespace c) (from_start rest) (encode_utf8 c ++ rest)
start_char c rest is = grind (arith, decoded-encode, drop_at, encode_some, length-append, start_step)

start_spaces : (chars rest : List ℕ) → AllWhite chars
    → from_start (encode_utf8_all chars ++ rest) ≡ from_start rest
start_spaces [] rest all = refl
start_spaces (c ∷ cs) rest all =
    grind (arith, append_assoc, cond-true, start_char, white_is_scalar, start_spaces cs rest all.1)

abbrev Started : List ℕ → Type 0
Started bytes = (chars : List ℕ) × AllWhite chars × (bytes ≡ encode_utf8_all chars ++ from_start bytes)

started : (bytes : List ℕ) → Started bytes
started = by_units Started ([], tt, sym (drop-nil _)) (λ bytes some (chars, all, whole).
    let c = first_char bytes in
    let step = start_step bytes some in
    elim (cases_Bool (is_whitespace c)) [
      | inr other ↦ ([], tt, sym (step ∙ cond-false _ _ _ other))
      | inl white ↦ (
        c ∷ chars,
        (white, all),
        grind (arith, append_assoc, written),
      )
    ])

-- ---- The end of a value.

-- where the last character that isn't white space ends
abbrev end_of : List ℕ → ℕ
end_of bytes = kept_end is_whitespace 0 (spans_from 0 (pieces bytes))

end_char : (rest : List ℕ) (c : ℕ) → scalar c ≡ true → end_of (rest ++ encode_utf8 c)
    ≡ cond (is_whitespace c) (end_of rest) (length (rest ++ encode_utf8 c))
end_char rest c is =
    let back = encode_utf8 c in
    let bytes = rest ++ back in
    let n = length back in
    let some = encode_some c in
    let long = length-append rest back in
    let front : take (length bytes - n) bytes ≡ rest = take_at rest back _ (omega arith) in
    let clean : StartsClean back = λ has.
    let start = (IsCharBoundary-start back (IsUtf8-encode c is)).1 has in grind (arith, nat_tests) in
    let read : decoded back ≡ good c n = rw append-nil at (decoded-encode c [] is) in
    let one : pieces back ≡ good c n ∷ []
    = rw (pieces-step back some, read, drop_all n back (omega arith), pieces-nil) refl in
    let last : IsLastPiece bytes (good c n) = grind (arith, pieces-append) in
    let whole : 0 + (length bytes - n) + n ≡ length bytes = omega arith in
    rw (spans-last bytes (good c n) 0 last, kept_end-snoc is_whitespace 0, front, whole) refl

end_spaces : (chars rest : List ℕ) → AllWhite chars
    → end_of (rest ++ encode_utf8_all chars) ≡ end_of rest
end_spaces [] rest all = ap end_of (append-nil rest)
end_spaces (c ∷ cs) rest all =
    grind (
      arith,
      append_assoc,
      cond-true,
      end_char,
      white_is_scalar,
      end_spaces cs (rest ++ encode_utf8 c) all.1,
    )

abbrev Ended : List ℕ → ℕ → Type 0
Ended text end = (end ≤ length text) × IsSpaces (drop end text)

ended_next : (bytes text : List ℕ) (end : ℕ) → 0 < length bytes → Ended text end
    → (let n = (decoded bytes).size in
    Ended (text ++ take n bytes) (cond (is_whitespace (first_char bytes)) end (length text + n)))
ended_next bytes text end some (within, (chars, all, spaces)) =
    let c = first_char bytes in
    let n = (decoded bytes).size in
    let unit = take n bytes in
    let bounds = piece-bounds bytes some in
    let long : length (text ++ unit) ≡ length text + n = simp (length-append, length-take) (omega arith) in
    elim (cases_Bool (is_whitespace c)) [
      | inr other ↦
          grind (arith, drop_all)
      | inl white ↦
          let same : unit ≡ encode_utf8 c
          = append_cancel_right _ _ (following bytes) (take-append-drop n bytes ∙ written bytes white) in
          rw white (
            omega arith,
            (
              chars ++ c ∷ [],
              grind (arith, each_append),
              rw (drop-append-le end text unit within, spaces, encodes-append, append-nil, same) refl,
            ),
          )
    ]

ended : (bytes text : List ℕ) (end : ℕ) → Ended text end
    → Ended (text ++ bytes) (kept_end is_whitespace end (spans_from (length text) (pieces bytes)))
unfolding kept_end
ended = by_units (λ bytes. (text : List ℕ) (end : ℕ) → Ended text end
    → Ended (text ++ bytes) (kept_end is_whitespace end (spans_from (length text) (pieces bytes))))
    (λ text end e. rw (append-nil, spans-nil [] (length text) refl) e)
    (λ bytes some later text end e.
    let n = (decoded bytes).size in
    let bounds = piece-bounds bytes some in
    let long : length (text ++ take n bytes) ≡ length text + n
    = simp (length-append, length-take) (omega arith) in
    rw (spans-first bytes (length text) some)
    (rw (append_assoc, take-append-drop, long) at
    (later (text ++ take n bytes) _ (ended_next bytes text end some e))))

pub trimmed_is_trim : (region : List ℕ) → IsTrimOf (trimmed region) region
trimmed_is_trim region =
    let (chars, all, cut) = started region in
    let front = encode_utf8_all chars in
    let rest = from_start region in
    let e = ended rest [] 0 (omega arith, ([], tt, refl)) in
    let whole = take-append-drop (end_of rest) rest in record {
      front = front;
      back = drop (end_of rest) rest;
      whole = cc;
      front_spaces = (chars, all, refl);
      front_longest = grind (arith, length-append, length-drop, start_spaces);
      back_spaces = e.1;
      back_longest = λ r s e is.
          let same : end_of rest ≡ end_of r
          = grind (arith, end_spaces) in
          let within = (ended r [] 0 (omega arith, ([], tt, refl))).0 in
          grind (arith, length-append, length-drop);
    }

pub trim_unique : (region value : List ℕ) → IsTrimOf value region → trimmed region ≡ value
trim_unique region value u =
    let t = trimmed_is_trim region in
    let n = length u.front in
    let below = u.front_longest t.front (trimmed region ++ t.back) t.whole t.front_spaces in
    let above = t.front_longest u.front (value ++ u.back) u.whole u.front_spaces in
    let rest : trimmed region ++ t.back ≡ value ++ u.back
    = sym (drop_at t.front _ n (omega arith)) ∙ ap (drop n) (cc)
    ∙ drop_at u.front _ n refl in
    let within = u.back_longest (trimmed region) t.back (sym rest) t.back_spaces in
    let over = t.back_longest value u.back rest u.back_spaces in
    let long : length (trimmed region) ≡ length value
    = omega (arith, simp length-append at (ap length rest)) in
    cc (take_at (trimmed region) t.back _ long, take_at value u.back _ refl)

pub trim_if_same : (text region value : List ℕ) → trimmed text ≡ trimmed region → IsTrimOf value region
    → IsTrimOf value text
trim_if_same text region value same t = grind (arith, trim_unique, trimmed_is_trim)

blank_spaces : (blanks : List ℕ) → Each IsBlank blanks
    → AllWhite blanks × (encode_utf8_all blanks ≡ blanks)
unfolding encode_utf8
blank_spaces [] all = (tt, refl)
blank_spaces (b ∷ blanks) (is, all) = grind (arith, blank_spaces blanks all)

pub trim_skips_blanks : (blanks region : List ℕ) → Each IsBlank blanks
    → trimmed (blanks ++ region) ≡ trimmed region
trim_skips_blanks blanks region all = grind (arith, blank_spaces, start_spaces)

end_blanks : (left blanks : List ℕ) → Each IsBlank blanks
    → trim_end_by is_whitespace (left ++ blanks) ≡ trim_end_by is_whitespace left
end_blanks left blanks all =
    let (white, same) = blank_spaces blanks all in
    let end : end_of (left ++ blanks) ≡ end_of left
    = grind (arith, end_spaces) in
    cc (take-append-le (end_of left) left blanks (ended left [] 0 (omega arith, ([], tt, refl))).0)

blanks_after_chars : (chars blanks : List ℕ) → scalars chars ≡ true → Each IsBlank blanks
    → trimmed (encode_utf8_all chars ++ blanks) ≡ trimmed (encode_utf8_all chars)
blanks_after_chars [] blanks is all =
    ap trimmed (sym (append-nil blanks)) ∙ trim_skips_blanks blanks [] all
blanks_after_chars (c ∷ cs) blanks is all =
    let both = and_parts (scalar c) (scalars cs) is in
    let text = encode_utf8_all cs in
    let bare = start_char c text both.0 in
    let more = rw (← append_assoc) at (start_char c (text ++ blanks) both.0) in
    grind (arith, cases_Bool, end_blanks, blanks_after_chars cs blanks both.1 all)

pub trim_drops_blanks : (text blanks : List ℕ) → IsUtf8 text → Each IsBlank blanks
    → trimmed (text ++ blanks) ≡ trimmed text
trim_drops_blanks text blanks (chars, (is, whole)) all = rw (← whole) (blanks_after_chars chars blanks is all)

graphic_char : (b : ℕ) → is_ascii_graphic b ≡ true
    → (scalar b ≡ true) × (is_whitespace b ≡ false) × (encode_utf8 b ≡ b ∷ [])
graphic_char b is =
    let low : b < 128 = grind (arith, nat_tests) in
    grind (arith, encode_ascii)

graphic_first : (b : ℕ) (rest : List ℕ) → is_ascii_graphic b ≡ true
    → from_start (b ∷ rest) ≡ b ∷ rest
graphic_first b rest is =
    let (scalar_b, dark, one) = graphic_char b is in
    (rw one at (start_char b rest scalar_b)) ∙ cond-false _ _ _ dark

pub graphic_trimmed : (b : ℕ) (rest : List ℕ) → is_ascii_graphic b ≡ true
    → is_ascii_graphic (get_or (b ∷ rest) (length rest) 0) ≡ true → trimmed (b ∷ rest) ≡ b
    ∷ rest
graphic_trimmed b rest first_is last_is =
    let text = b ∷ rest in
    let front = take (length rest) text in
    let last = get_or text (length rest) 0 in
    let (scalar_l, dark, one) = graphic_char last last_is in
    let whole : front ++ last ∷ [] ≡ text
    = sym (take_more text (length rest) 0 (omega arith)) ∙ take_all (length rest + 1) text (omega arith) in
    let end : end_of text ≡ length text
    = (rw (one, whole) at (end_char front last scalar_l)) ∙ cond-false _ _ _ dark in
    grind (arith, graphic_first, take_all)

pub graphic_ends : (text : List ℕ) (first last : ℕ) → Some first ≡ slice_get text 0
    → Some last ≡ slice_get text (length text - 1) → is_ascii_graphic first ≡ true
    → is_ascii_graphic last ≡ true
    → trimmed text ≡ text
graphic_ends [] first last here there first_is last_is = cc
graphic_ends (b ∷ rest) first last here there first_is last_is =
    grind (arith, graphic_trimmed, slice_get-get_or)

-- if the first byte of a tail is visible and starts no comment, the value is empty or begins with it
pub other_value : (tail name : List ℕ) (first letter : ℕ) → Some first ≡ slice_get tail 0
    → Some letter ≡ slice_get name 0 → (first == hash) ≡ false → is_ascii_graphic first ≡ true
    → eq_ignore_ascii_case first letter ≡ false
    → bytes_eq (str_to_ascii_lowercase (value_of tail)) (str_to_ascii_lowercase name) ≡ false
other_value [] name first letter here there plain is other = cc
other_value tail [] first letter here there plain is other = cc
other_value (b ∷ tail) (x ∷ name) first letter here there unlike visible differs =
    let plain : (b == hash) ≡ false = cc in
    let is : is_ascii_graphic b ≡ true = cc in
    let other : eq_ignore_ascii_case b x ≡ false = cc in
    let len = prefix_len (λ byte. not (byte == hash)) tail in
    let one : 1 + len ≡ suc len = omega arith in
    grind (arith, graphic_first, short)
  where
    short : eq_ignore_ascii_case b x ≡ false → (k : ℕ)
        → bytes_eq (str_to_ascii_lowercase (take k (b ∷ region_of tail))) (str_to_ascii_lowercase (x ∷ name))
        ≡ false
    short other zero = refl
    short other (suc k) = rw other refl
