-- Texts in which single bytes are escaped stay printable.
use Rattle.std.specs.Prelude.{IsTrue, not, ◌||◌}
use Rattle.std.proofs.Common.{◌≡◌, ℕ, suc, ◌<◌, ◌≤◌, Bool, true, List, [], ◌∷◌, ◌++◌, ap₂, append-nil, arith}
use Rattle.std.proofs.Common.{flat_map, get_or, inl, inr, length, refl, subst, sym}
use Rattle.std.specs.{Char.IsScalar, Char.encode_utf8, List.list_all}
use Rattle.std.specs.Str.{all_scalars, chars, encode_utf8_all}
use Rattle.std.proofs.lemmas.Bool.{agree_below, agree_below_at, and_parts, cases_lt}
use Rattle.std.proofs.{lemmas.Grind.flat_map-append}
use Rattle.std.proofs.lemmas.Str.{encode_ascii, encodes-chars, inside_one, scalars-chars}
use Rattle.safe_output.specs.Sanitize.{IsPrintable, is_printable, is_printable_byte}
use Rattle.safe_output.proofs.SanitizeLemmas.{append_printable, ascii_printable, char_printable}
use Rattle.safe_output.proofs.SanitizeLemmas.{nil_printable}

abbrev stays_printable : (ℕ → List ℕ) → ℕ → Bool
stays_printable escape byte = not (is_printable true byte) || list_all (is_printable_byte true) (escape byte)

-- `escape` is how a byte is written within quotes: a printable ASCII byte as printable bytes, and others
-- unchanged
module _ (escape : ℕ → List ℕ) (stay : agree_below (stays_printable escape) (λ _. true) 128 ≡ true)
    (high_stay : (byte : ℕ) → 128 ≤ byte → escape byte ≡ byte ∷ []) where
  beyond_kept : (bytes : List ℕ) → ((k : ℕ) → k < length bytes → 128 ≤ get_or bytes k 0)
      → flat_map escape bytes ≡ bytes
  beyond_kept [] high = refl
  beyond_kept (byte ∷ bytes) high =
      ap₂ (λ (one two : List ℕ). one ++ two) (high_stay byte (high 0 (omega arith)))
      (beyond_kept bytes (λ k below. high (suc k) (omega arith)))

  char_escaped : (char : ℕ) → IsScalar char → is_printable true char ≡ true
      → IsPrintable (flat_map escape (encode_utf8 char))
  char_escaped char is plain = elim (cases_lt char 128) [
    | inl low ↦
        let stays = agree_below_at (stays_printable escape) (λ _. true) 128 char stay low in
        rw (encode_ascii char low, append-nil) (ascii_printable true (escape char) (rw plain at stays))
    | inr beyond ↦
        let bytes = encode_utf8 char in
        let high : (k : ℕ) → k < length bytes → 128 ≤ get_or bytes k 0 = λ k below.
        elim (cases_lt (get_or bytes k 0) 128) [
          | inl low ↦ absurd (omega (arith, inside_one char [] bytes k (sym (append-nil _)) below low))
          | inr is ↦ is
        ] in
        subst IsPrintable (sym (beyond_kept bytes high)) (char_printable true char is plain)
  ]

  text_escaped : (cs : List ℕ) → all_scalars cs ≡ true → IsTrue (list_all (is_printable true) cs)
      → IsPrintable (flat_map escape (encode_utf8_all cs))
  text_escaped [] scalars are = nil_printable true
  text_escaped (char ∷ cs) scalars are =
      let is = and_parts _ (all_scalars cs) scalars in
      let plain = and_parts (is_printable true char) (list_all (is_printable true) cs) are in
      let front = encode_utf8 char in
      let rest = encode_utf8_all cs in
      subst IsPrintable (sym (flat_map-append escape front rest))
      (append_printable true (flat_map escape front) (flat_map escape rest)
      (char_escaped char is.0 plain.0) (text_escaped cs is.1 plain.1))

  pub escaped_printable : (text : List ℕ) → IsPrintable text → IsPrintable (flat_map escape text)
  escaped_printable text is =
      subst (λ t. IsPrintable (flat_map escape t)) (encodes-chars text is.utf8)
      (text_escaped (chars text) (scalars-chars text is.utf8) is.all)
