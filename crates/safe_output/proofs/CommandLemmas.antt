-- Sanitized texts don't contain the start of a command.
use Rattle.std.specs.{Prelude.nat_eq, List.list_all, Str.chars, Str.encode_utf8_all}
use Rattle.std.proofs.Common.{◌≡◌, ℕ, ◌==◌, Bool, true, false, List, [], ◌∷◌, arith, flat_map, inl, inr, refl}
use Rattle.std.proofs.lemmas.Bool.{and_parts, cases_Bool, not-true, Decides.nat_tests}
use Rattle.safe_output.specs.Sanitize.{has_command, is_other, safe_in, sanitized_in, without_commands}
use Rattle.safe_output.specs.Sanitize.{without_hash}
use Rattle.safe_output.proofs.SanitizeLemmas.{chars_pass}

other_quiet : (text : List ℕ) → list_all is_other text ≡ true → has_command text ≡ false
other_quiet [] are = refl
other_quiet (b ∷ text) are =
    let both = and_parts (is_other b) (list_all is_other text) are in
    rw (not-true (nat_eq 35 b) both.0) (other_quiet text both.1)

others_kept : (cs : List ℕ) → list_all is_other (flat_map without_hash cs) ≡ true
others_kept [] = refl
others_kept (char ∷ cs) = elim (cases_Bool (char == 35)) [
  | inl hash ↦ rw hash (others_kept cs)
  | inr other ↦
      let is : is_other char ≡ true = grind (arith, nat_tests) in
      rw (other, is) (others_kept cs)
]

pub without_quiet : (text : List ℕ) → has_command (without_commands text) ≡ false
unfolding without_commands
without_quiet text = elim (cases_Bool (has_command text)) [
  | inl has ↦
      let free = flat_map without_hash (chars text) in
      let are = chars_pass is_other (λ byte high. grind (arith, nat_tests)) free (others_kept (chars text)) in
      rw has (other_quiet (encode_utf8_all free) are)
  | inr lacks ↦ rw lacks lacks
]

pub sanitized_quiet : (has_lines : Bool) (bytes : List ℕ) → has_command (sanitized_in has_lines bytes) ≡ false
sanitized_quiet has_lines bytes = without_quiet (safe_in has_lines bytes)
