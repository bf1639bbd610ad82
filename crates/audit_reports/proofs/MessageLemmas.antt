-- Messages of a SARIF log show the texts that they are made of.
use Rattle.std.proofs.Common.{◌≡◌, ◌∙◌, ◌==◌, ℕ, true, List, [], ◌∷◌, ◌++◌, None, Some, ap}
use Rattle.std.proofs.Common.{append-nil, arith, flat_map, inl, inr, option_map, refl, sym}
use Rattle.std.specs.Str.{encode_utf8_all}
use Rattle.std.proofs.lemmas.Bool.{cases_Bool, Decides.nat_tests}
use Rattle.std.proofs.lemmas.{List.Concat.flat_map-append, Str.encodes-append}
use Rattle.audit_reports.specs.Sarif.{is_brace, literal_char, shown, shown_after, takes_backslash}

pub literal_next : (yielded : List ℕ) (char : ℕ) (message new : List ℕ)
    → message ≡ encode_utf8_all (flat_map literal_char yielded)
    → new ≡ message ++ encode_utf8_all (literal_char char)
    → new ≡ encode_utf8_all (flat_map literal_char (yielded ++ char ∷ []))
literal_next yielded char message new so_far added =
    let front = flat_map literal_char yielded in
    let whole = flat_map-append literal_char yielded (char ∷ [])
    ∙ ap (λ (last : List ℕ). front ++ last) (append-nil (literal_char char)) in
    added ∙ ap (λ (text : List ℕ). text ++ encode_utf8_all (literal_char char)) so_far
    ∙ sym (ap encode_utf8_all whole ∙ encodes-append front (literal_char char))

same_char : (char : ℕ) → (char == char) ≡ true
same_char char = grind (arith, nat_tests)

shown_char : (char : ℕ) (message : List ℕ) → shown_after None (literal_char char ++ message)
    ≡ option_map (λ shown. char ∷ shown) (shown_after None message)
shown_char char message = elim (cases_Bool (is_brace char)) [
  | inl brace ↦ rw (brace, brace, same_char char) refl
  | inr isnt ↦ elim (cases_Bool (takes_backslash char)) [
    | inl takes ↦ rw (isnt, takes, takes) refl
    | inr ordinary ↦ rw (isnt, ordinary, isnt, ordinary) refl
  ]
]

pub literal_shown : (text : List ℕ) → shown (flat_map literal_char text) ≡ Some text
literal_shown [] = refl
literal_shown (char ∷ text) =
    shown_char char (flat_map literal_char text)
    ∙ ap (λ shown. option_map (λ (text : List ℕ). char ∷ text) shown) (literal_shown text)
