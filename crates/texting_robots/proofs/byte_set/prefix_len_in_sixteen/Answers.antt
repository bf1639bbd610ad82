use Rattle.std.proofs.Common.{◌≡◌, ◌/◌, ◌<◌, ◌%◌, ◌^◌, ◌==◌, ◌∙◌, ℕ, Bool, List, ap, arith, bit_and, cond}
use Rattle.std.proofs.Common.{length, map, replicate, slice_index, sym, w8}
use Rattle.std.{specs.List.prefix_len, proofs.lemmas.List.length-map, proofs.lemmas.Nat.and_le_r}
use Rattle.std.proofs.lemmas.Bool.{cond-true, cond-false, eq-eqb, ne_eqb}
use Rattle.std.proofs.lemmas.Simd.{Each1-all, Each1-weaker, Each1-zip2, Each2-splat, below_from_Fits}
use Rattle.std.proofs.lemmas.Simd.{bitmask_splat, first_set_mask_l, map-map, zip2_of_maps, zip2_splat}
use lib.Count.{count_trailing_zeros}
use lib.Lanes.{mask_l, top, zip2}
use Rattle.texting_robots.specs.{Internal.ByteSet.is_kept, declared.byte_set.TheConstants.UPPER}
use Rattle.texting_robots.proofs.byte_set.prefix_len_in_sixteen.Goals as goal

-- the number of leading bytes, among sixteen, that are kept, from a mask with a bit for each other byte
module _ (set bytes lower upper : List ℕ) (long : length bytes ≡ 16)
    (lower_is : lower ≡ map (slice_index set) (zip2 bit_and bytes (replicate 16 15)))
    (upper_is : upper ≡ map (slice_index UPPER.now) (zip2 (λ a b. a / 2 ^ b) bytes (replicate 16 4))) where
  abbrev other : ℕ → Bool
  other b = bit_and (slice_index set (bit_and b 15)) (slice_index UPPER.now (b / 16)) == 0

  abbrev bits : ℕ
  bits = mask_l (map (top 7) (zip2 (λ a b. cond (a == b) 255 0) (zip2 bit_and lower upper) (replicate 16 0)))
      % 2 ^ 64

  bits_are : bits ≡ mask_l (map other bytes)
  bits_are =
      let low = rw (zip2_splat bit_and bytes 16 15 long, map-map) at lower_is in
      let up = rw (zip2_splat (λ a b. a / 2 ^ b) bytes 16 4 long, map-map) at upper_is in
      let both = zip2_of_maps bit_and _ _ bytes low up in
      bitmask_splat w8 (λ a b. a == b) (zip2 bit_and lower upper) 16 0
      (ap length both ∙ length-map bytes _ ∙ long) (omega arith)
      ∙ ap (λ xs. mask_l (map (λ x. x == 0) xs)) both ∙ ap mask_l (map-map _ _ bytes)

  counted : cond (bits == 0) 16 (count_trailing_zeros 64 bits) ≡ prefix_len (is_kept set) bytes
  unfolding is_kept
  counted = grind (arith, bits_are, first_set_mask_l)

pub looked_up-lower-requires : goal.looked_up-lower-requires
looked_up-lower-requires c =
    let bytes = c.args.bytes in
    Each1-zip2 bit_and (λ j. j < 16) bytes (replicate 16 15)
    (Each2-splat (λ a b. bit_and a b < 16) bytes 16 15
    (Each1-all (λ a. bit_and a 15 < 16) (λ a. omega (arith, and_le_r a 15)) bytes))

pub looked_up-upper-requires : goal.looked_up-upper-requires
looked_up-upper-requires c =
    let bytes = c.args.bytes in
    Each1-zip2 (λ a b. a / 2 ^ b) (λ j. j < 16) bytes (replicate 16 4)
    (Each2-splat (λ a b. a / 2 ^ b < 16) bytes 16 4 (Each1-weaker (λ a. a < 256) (λ a. a / 2 ^ 4 < 16)
    (λ a small. omega arith) bytes (below_from_Fits w8 bytes c.fits-bytes.1)))

pub returns-then-others-eq0 : goal.returns-then-others-eq0
returns-then-others-eq0 c =
    sym (cond-true _ 16 _ (eq-eqb _ 0 c.if-others-eq0.true))
    ∙ counted _ _ _ _ c.fits-bytes.0 c.looked_up-lower.ensures c.looked_up-upper.ensures

pub returns-else-others-eq0 : goal.returns-else-others-eq0
returns-else-others-eq0 c =
    sym (cond-false _ 16 _ (ne_eqb _ 0 c.if-others-eq0.false))
    ∙ counted _ _ _ _ c.fits-bytes.0 c.looked_up-lower.ensures c.looked_up-upper.ensures
