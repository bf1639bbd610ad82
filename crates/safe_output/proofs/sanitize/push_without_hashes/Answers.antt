use Rattle.std.proofs.Common.{◌≡◌, ℕ, List, [], ◌∷◌, ◌++◌, ap, append-nil, append_assoc, flat_map, map-id}
use Rattle.std.proofs.Common.{string_bytes, sym, ◌∙◌}
use Rattle.std.specs.{Str.encode_utf8_all}
use Rattle.std.proofs.lemmas.{Grind.flat_map-append, Str.encodes-append}
use Rattle.std.proofs.lemmas.Iterator.{YieldsList-from_chars, Consumers.YieldsList-end}
use Rattle.safe_output.specs.{Sanitize.without_hash}
use Rattle.safe_output.proofs.{SanitizeLemmas.starts_on}
use Rattle.safe_output.proofs.sanitize.push_without_hashes.Goals as goal

char_added : (yielded : List ℕ) (char : ℕ) (old mid new : List ℕ)
    → mid ≡ old ++ encode_utf8_all (flat_map without_hash yielded)
    → new ≡ mid ++ encode_utf8_all (without_hash char)
    → new ≡ old ++ encode_utf8_all (flat_map without_hash (yielded ++ char ∷ []))
char_added yielded char old mid new so_far added =
    let front = flat_map without_hash yielded in
    let last = without_hash char in
    let whole = flat_map-append without_hash yielded (char ∷ [])
    ∙ ap (λ (chars : List ℕ). front ++ chars) (append-nil last) in
    added ∙ ap (λ (text : List ℕ). text ++ encode_utf8_all last) so_far
    ∙ append_assoc old (encode_utf8_all front) (encode_utf8_all last)
    ∙ ap (λ (text : List ℕ). old ++ text) (sym (ap encode_utf8_all whole ∙ encodes-append front last))

pub loop-char-preserved : goal.loop-char-preserved
loop-char-preserved c = record {
  whole = char_added c.loop-char.yielded c.in-Some.char _ _ _ c.loop-char.invariant.whole
      c.in_ok-push_without_hash.ensures.added;
  kept = starts_on _ _ _ c.loop-char.invariant.kept c.push_without_hash.ensures.kept;
}

pub returns-clause-added : goal.returns-clause-added
returns-clause-added c =
    let end = YieldsList-end (YieldsList-from_chars c.args.plain.now c.utf8.plain cc) c.loop-char.yielded _
    c.loop-char.yielded_by _ _ c.in-None.is c.next.ensures.steps in
    c.loop-char.invariant.whole
    ∙ ap (λ (chars : List ℕ). string_bytes c.args.text.now ++ encode_utf8_all (flat_map without_hash chars))
    (sym (map-id c.loop-char.yielded) ∙ end.0)
