-- The texts that are met, and those found, after one more.
use Rattle.std.proofs.Common.{◌≡◌, ◌+◌, ◌<◌, ◌&&◌, ◌||◌, ℕ, Bool, Bor, true, List, [], ◌∷◌, ◌++◌, ap}
use Rattle.std.proofs.Common.{arith, bytes_eq, if◌then◌else◌, length, map, nat_cmp, not, refl}
use Rattle.std.proofs.Common.{slice_index_or, take}
use Rattle.std.specs.{BTreeSet.BTreeSet, BTreeSet.Updates, Cmp.Lexicographic.slice_cmp, List.list_any}
use Rattle.std.proofs.lemmas.{Grind.common_steps, Map.Text.is_eq-slice_cmp, Slice.Eq.bytes_eq-Decides}
use Rattle.std.proofs.lemmas.List.{Folds.list_any-append, take_more}
use Rattle.audit_compare.specs.{Compare.is_listed, Internal.is_met}

abbrev pub listed : List (Bor (List ℕ)) → List ℕ → Bool
listed items text = list_any (λ other. bytes_eq other.now text) items

pub listed_now : (items : List (Bor (List ℕ))) (text : List ℕ)
    → is_listed (map (λ item. item.now) items) text ≡ listed items text
listed_now [] text = refl
listed_now (item ∷ items) text = ap (λ has. bytes_eq item.now text || has) (listed_now items text)

-- exactly these are met
abbrev pub AreMet : BTreeSet (Bor (List ℕ)) → List (Bor (List ℕ)) → Type 0
AreMet met items = (text : List ℕ) → is_met met text ≡ listed items text

-- of these, those are found that aren't among the others
abbrev pub AreFound : (others items found : List (Bor (List ℕ))) → Type 0
AreFound others items found =
    (text : List ℕ) → listed found text ≡ (listed items text && not (listed others text))

module _ (old new : BTreeSet (Bor (List ℕ))) (items : List (Bor (List ℕ))) (at : ℕ) (d : Bor (List ℕ))
    (below : at < length items)
    (updates : Updates (λ x y. slice_cmp nat_cmp x.now y.now) old new (slice_index_or items at d) true)
    (others : List (Bor (List ℕ))) (before : AreMet old (others ++ take at items)) where
  pub met_next : AreMet new (others ++ take (at + 1) items)
  met_next text =
      let more = updates.0 (record { ref_ptr = (0, 0); now = text }) in
      let same = is_eq-slice_cmp (slice_index_or items at d).now text in
      let was = before text in
      rw (take_more items at d below) (grind (arith, common_steps, list_any-append, more, same, was))

  pub found_next : (found more : List (Bor (List ℕ))) (is_new : Bool)
      → is_new ≡ not (is_met old (slice_index_or items at d).now)
      → more ≡ (if is_new then found ++ slice_index_or items at d ∷ [] else found)
      → AreFound others (take at items) found → AreFound others (take (at + 1) items) more
  found_next found more is_new new is had text =
      let item = slice_index_or items at d in
      let met = before item.now in
      let same = (bytes_eq-Decides item.now text).0 in
      let had = had text in
      rw (take_more items at d below) (grind (arith, common_steps, list_any-append, new, is, met, same, had))
