-- Sanitized bytes, and appended lines.
use Rattle.std.proofs.Common.{◌≡◌, ℕ, ◌≤◌, List, [], ◌∷◌, ◌++◌, sym, ap, ◌∙◌, append_assoc, arith, drop, take}
use Rattle.std.proofs.Common.{length, zero, suc, ◌<◌, ◌/◌, ◌%◌, ◌==◌, nat_lt, Bool, true, false, Option, Some}
use Rattle.std.proofs.Common.{None, codes, flat_map, get_or, inl, inr, length-append, refl, subst}
use Rattle.std.specs.{Io.StartsWith, Bool.IsTrue, Fmt.digit_glyph, Char.IsScalar, Char.encode_utf8}
use Rattle.std.specs.Str.{chars, IsAscii, all_scalars, encode_utf8_all}
use Rattle.std.{specs.List.AllByRecursion as Each, specs.List.list_all, proofs.Math.Seq.drop-append_seam}
use Rattle.std.proofs.lemmas.List.{Concat.flat_map-append, Folds.list_all-append, Sums.list_all-from_AllPass}
use Rattle.std.proofs.lemmas.List.{length-take, take-append-drop, take-append-le, append-nil, get_or_default}
use Rattle.safe_output.specs.Lines.{ended, lf}
use Rattle.std.proofs.lemmas.Bool.{and_parts, cases_Bool, cases_lt, cond_both, Decides.nat_tests}
use Rattle.std.proofs.lemmas.Str.{IsUtf8-append, IsUtf8-from_ascii, IsUtf8-nil, chars-IsAscii, chars-append}
use Rattle.std.proofs.lemmas.Str.{chars-encodes, chars-nil, encodes-chars, len_utf8_bounds, inside_one}
use Rattle.std.proofs.lemmas.Str.{length-encode, scalars-chars, Ascii.IsAscii-cons, Ascii.IsAscii-nil}
use Rattle.bstr.specs.Utf8.{Decoded, decoded, good, pieces_from}
use Rattle.bstr.proofs.lemmas.PieceLemmas.{pieces-nil, pieces-step}
use Rattle.bstr.proofs.lemmas.{EncodeLemmas.decoded-encode, SoundLemmas.SpellsChar-decoded}
use Rattle.texting_robots.specs.Escape.{escape_byte, escaped, is_escaped}
use Rattle.safe_output.specs.Sanitize.{IsPrintable, IsPrintableIn, has_command, is_printable, safe_chunk}
use Rattle.safe_output.specs.Sanitize.{is_printable_byte, safe_chunks, safe_in, sanitized, sanitized_in}
use Rattle.safe_output.specs.Sanitize.{without_commands, without_hash}
use lib.Utf8.{scalar}

pub ended-append : (lines more : List (List ℕ)) → ended (lines ++ more) ≡ ended lines ++ ended more
ended-append lines more = flat_map-append (λ line. line ++ lf ∷ []) lines more

pub lines_added : (old mid new : List ℕ) (lines more : List (List ℕ)) → mid ≡ old ++ ended lines
    → new ≡ mid ++ ended more → new ≡ old ++ ended (lines ++ more)
lines_added old mid new lines more one two =
    two ∙ ap (λ t. t ++ ended more) one ∙ append_assoc old (ended lines) (ended more)
    ∙ ap (λ t. old ++ t) (sym (ended-append lines more))

pub starts_on : (old mid new : List ℕ) → StartsWith mid old → StartsWith new mid → StartsWith new old
starts_on old mid new one two =
    let within : length old ≤ length mid = omega (arith, ap length one, length-take (length old) mid) in
    let whole : mid ++ drop (length mid) new ≡ new =
    ap (λ t. t ++ drop (length mid) new) (sym two) ∙ take-append-drop (length mid) new in
    ap (λ t. take (length old) t) (sym whole) ∙ take-append-le (length old) mid _ within ∙ one

-- ---- Sanitized bytes are printable, and printable bytes are unchanged by sanitizing.

char_passes : (test : ℕ → Bool) → ((byte : ℕ) → 128 ≤ byte → test byte ≡ true) → (char : ℕ)
    → test char ≡ true → list_all test (encode_utf8 char) ≡ true
char_passes test high char is =
    let bytes = encode_utf8 char in
    list_all-from_AllPass test bytes (λ k d below. rw (get_or_default bytes k d 0 below)
    (elim (cases_lt (get_or bytes k 0) 128) [
      | inl low ↦ rw (← inside_one char [] bytes k (sym (append-nil bytes)) below low) is
      | inr beyond ↦ high (get_or bytes k 0) beyond
    ]))

pub chars_pass : (test : ℕ → Bool) → ((byte : ℕ) → 128 ≤ byte → test byte ≡ true) → (cs : List ℕ)
    → list_all test cs ≡ true → list_all test (encode_utf8_all cs) ≡ true
chars_pass test high [] are = refl
chars_pass test high (char ∷ cs) are =
    let both = and_parts (test char) (list_all test cs) are in
    rw (list_all-append, char_passes test high char both.0) (chars_pass test high cs both.1)

module _ (has_lines : Bool) where
  pub nil_printable : IsPrintableIn has_lines []
  nil_printable = record { utf8 = IsUtf8-nil; all = rw chars-nil refl }

  pub append_printable : (one two : List ℕ) → IsPrintableIn has_lines one → IsPrintableIn has_lines two
      → IsPrintableIn has_lines (one ++ two)
  append_printable one two is too = record {
    utf8 = IsUtf8-append one two is.utf8 too.utf8;
    all = rw (chars-append one two is.utf8, list_all-append, is.all) too.all;
  }

  pub chars_printable : (cs : List ℕ) → all_scalars cs ≡ true → IsTrue (list_all (is_printable has_lines) cs)
      → IsPrintableIn has_lines (encode_utf8_all cs)
  chars_printable cs scalars are =
      record { utf8 = (cs, (scalars, refl)); all = rw (chars-encodes cs scalars) are }

  as_ascii : (text : List ℕ) → IsTrue (list_all (is_printable_byte has_lines) text)
      → IsAscii text × IsTrue (list_all (is_printable has_lines) text)
  as_ascii [] are = (IsAscii-nil, refl)
  as_ascii (byte ∷ text) are =
      let both = and_parts (is_printable_byte has_lines byte)
      (list_all (is_printable_byte has_lines) text) are in
      let first = and_parts (nat_lt byte 128) (is_printable has_lines byte) both.0 in
      let later = as_ascii text both.1 in
      let low : byte < 128 = grind (arith, nat_tests) in
      (IsAscii-cons byte text low later.0, rw first.1 later.1)

  pub ascii_printable : (text : List ℕ) → IsTrue (list_all (is_printable_byte has_lines) text)
      → IsPrintableIn has_lines text
  ascii_printable text are =
      let is = as_ascii text are in
      record { utf8 = IsUtf8-from_ascii text is.0; all = rw (chars-IsAscii text is.0) is.1 }

  pub flat_printable : {X : Type 0} (f : X → List ℕ) → ((x : X) → IsPrintableIn has_lines (f x))
      → (xs : List X) → IsPrintableIn has_lines (flat_map f xs)
  flat_printable f are [] = nil_printable
  flat_printable f are (x ∷ xs) = append_printable (f x) (flat_map f xs) (are x) (flat_printable f are xs)

  glyph : (digit : ℕ) → digit < 16 → is_printable_byte has_lines (digit_glyph true digit) ≡ true
  glyph digit below = grind (arith, nat_tests)

  safe_nil : safe_in has_lines [] ≡ []
  safe_nil = rw pieces-nil refl

  safe_step : (bytes : List ℕ) → 0 < length bytes → safe_in has_lines bytes
      ≡ safe_chunk has_lines (decoded bytes).char (take (decoded bytes).size bytes)
      ++ safe_in has_lines (drop (decoded bytes).size bytes)
  safe_step bytes some = ap (λ ps. safe_chunks has_lines ps bytes) (pieces-step bytes some)

  -- loop step: one more UTF-8 unit was appended, and the sanitized rest follows
  pub chunk_added : (rest old mid new : List ℕ) → 0 < length rest
      → new ≡ mid ++ safe_chunk has_lines (decoded rest).char (take (decoded rest).size rest)
      → mid ++ safe_in has_lines rest ≡ old
      → new ++ safe_in has_lines (drop (decoded rest).size rest) ≡ old
  chunk_added rest old mid new some added before =
      rw (added, append_assoc, ← safe_step rest some) before

  pub all_added : (rest old mid : List ℕ) → length rest ≡ 0 → mid ++ safe_in has_lines rest ≡ old
      → mid ≡ old
  all_added [] old mid none before = rw (safe_nil, append-nil) at before
  all_added (byte ∷ rest) old mid none before = absurd (omega arith)

  all_kept : (cs : List ℕ) → all_scalars cs ≡ true → IsTrue (list_all (is_printable has_lines) cs)
      → safe_in has_lines (encode_utf8_all cs) ≡ encode_utf8_all cs
  all_kept [] scalars are = safe_nil
  all_kept (char ∷ cs) scalars are =
      let scalars_too = and_parts (scalar char) (all_scalars cs) scalars in
      let plain = and_parts (is_printable has_lines char) (list_all (is_printable has_lines) cs) are in
      let front = encode_utf8 char in
      let rest = encode_utf8_all cs in
      let bytes = front ++ rest in
      let some : 0 < length bytes =
      omega (arith, length-append front rest, length-encode char, len_utf8_bounds char) in
      let read : decoded bytes ≡ good char (length front) = decoded-encode char rest scalars_too.0 in
      let with_chunk = λ (chunk : Decoded). safe_chunk has_lines chunk.char (take chunk.size bytes)
      ++ safe_in has_lines (drop chunk.size bytes) in
      safe_step bytes some ∙ ap with_chunk read
      ∙ rw (plain.0, drop-append_seam front rest, all_kept cs scalars_too.1 plain.1) refl

  pub printable_kept : (text : List ℕ) → IsPrintableIn has_lines text → safe_in has_lines text ≡ text
  printable_kept text is =
      subst (λ t. safe_in has_lines t ≡ t) (encodes-chars text is.utf8)
      (all_kept (chars text) (scalars-chars text is.utf8) is.all)

  escaped_printable : (byte : ℕ) → IsPrintableIn has_lines (escape_byte byte)
  escaped_printable byte = ascii_printable (escape_byte byte) (elim (cases_Bool (is_escaped byte)) [
    | inl is ↦ rw (is, glyph (byte / 16 % 16) (omega arith), glyph (byte % 16) (omega arith)) refl
    | inr isnt ↦
        let plain : is_printable_byte has_lines byte ≡ true = grind (arith, nat_tests) in
        rw (isnt, plain) refl
  ])

  pub char_printable : (char : ℕ) → IsScalar char → is_printable has_lines char ≡ true
      → IsPrintableIn has_lines (encode_utf8 char)
  char_printable char is plain =
      subst (IsPrintableIn has_lines) (append-nil (encode_utf8 char))
      (chars_printable (char ∷ []) (rw is refl) (rw plain refl))

  chunk_printable : (char : Option ℕ) (bytes : List ℕ) → ((c : ℕ) → char ≡ Some c → IsScalar c)
      → IsPrintableIn has_lines (safe_chunk has_lines char bytes)
  chunk_printable None bytes are = flat_printable escape_byte escaped_printable bytes
  chunk_printable (Some char) bytes are =
      cond_both (is_printable has_lines char) (encode_utf8 char) (escaped bytes) (IsPrintableIn has_lines)
      (char_printable char (are char refl)) (λ isnt. flat_printable escape_byte escaped_printable bytes)

  pub safe_in_printable : (bytes : List ℕ) → IsPrintableIn has_lines (safe_in has_lines bytes)
  unfolding pieces_from
  safe_in_printable bytes = from (length bytes) bytes
    where
      from : (n : ℕ) (bytes : List ℕ)
          → IsPrintableIn has_lines (safe_chunks has_lines (pieces_from n bytes) bytes)
      from zero bytes = nil_printable
      from (suc n) [] = nil_printable
      from (suc n) (byte ∷ later) =
          let bytes = byte ∷ later in
          let char = (decoded bytes).char in
          let size = (decoded bytes).size in
          append_printable (safe_chunk has_lines char (take size bytes)) _
          (chunk_printable char (take size bytes) (λ c is. (SpellsChar-decoded bytes c is).scalar))
          (from n (drop size bytes))

  hashes_printable : (cs : List ℕ) → all_scalars cs ≡ true → IsTrue (list_all (is_printable has_lines) cs)
      → IsPrintableIn has_lines (encode_utf8_all (flat_map without_hash cs))
  unfolding lib.Utf8.encode
  hashes_printable [] scalars are = nil_printable
  hashes_printable (char ∷ cs) scalars are =
      let is = and_parts (scalar char) (all_scalars cs) scalars in
      let plain = and_parts (is_printable has_lines char) (list_all (is_printable has_lines) cs) are in
      let rest = encode_utf8_all (flat_map without_hash cs) in
      let later = hashes_printable cs is.1 plain.1 in
      elim (cases_Bool (char == 35)) [
        | inl hash ↦ rw hash (append_printable (codes "%23") rest (ascii_printable (codes "%23") refl) later)
        | inr other ↦ rw other
            (append_printable (encode_utf8 char) rest (char_printable char is.0 plain.0) later)
      ]

  pub without_printable : (text : List ℕ) → IsPrintableIn has_lines text
      → IsPrintableIn has_lines (without_commands text)
  unfolding without_commands
  without_printable text is =
      cond_both (has_command text) _ text (IsPrintableIn has_lines)
      (λ has. hashes_printable (chars text) (scalars-chars text is.utf8) is.all) (λ lacks. is)

  pub sanitized_in_printable : (bytes : List ℕ) → IsPrintableIn has_lines (sanitized_in has_lines bytes)
  sanitized_in_printable bytes = without_printable (safe_in has_lines bytes) (safe_in_printable bytes)

pub ended_printable : (lines : List (List ℕ)) → Each IsPrintable lines → IsPrintable (ended lines)
ended_printable [] are = nil_printable true
ended_printable (line ∷ lines) (first, later) =
    append_printable true (line ++ lf ∷ []) (ended lines)
    (append_printable true line (lf ∷ []) first (ascii_printable true (lf ∷ []) refl))
    (ended_printable lines later)

pub line_printable : (text : List ℕ) → IsPrintableIn false text → IsPrintable text
line_printable text is = record { utf8 = is.utf8; all = with_lines (chars text) is.all }
  where
    with_lines : (cs : List ℕ) → IsTrue (list_all (is_printable false) cs)
        → IsTrue (list_all (is_printable true) cs)
    with_lines [] are = refl
    with_lines (char ∷ cs) are =
        let both = and_parts (is_printable false char) (list_all (is_printable false) cs) are in
        let plain : is_printable true char ≡ true = grind (arith, nat_tests) in
        rw plain (with_lines cs both.1)

pub sanitized_printable : (bytes : List ℕ) → IsPrintable (sanitized bytes)
sanitized_printable bytes = line_printable (sanitized bytes) (sanitized_in_printable false bytes)
