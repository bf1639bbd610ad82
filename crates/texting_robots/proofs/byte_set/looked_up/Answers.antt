use Rattle.std.proofs.Common.{◌≡◌, ◌∙◌, ◌+◌, ◌*◌, ◌/◌, ◌<◌, arith, get_or, length, refl, slice_index, sym, w8}
use Rattle.std.proofs.lemmas.List.{ext_get_or, get_or-map, length-map}
use Rattle.std.proofs.lemmas.Simd.{Each1-get_or, SwzOk-from_below, get_or-swz_l_below, length-swz_l}
use Rattle.texting_robots.proofs.byte_set.looked_up.Goals as goal

pub swizzle : goal.swizzle
swizzle c = SwzOk-from_below w8 16 1 16 0 c.args.places refl (omega (arith, c.fits-places.0)) c.requires

pub returns : goal.returns
returns c =
    let table = c.args.table.now in
    let places = c.args.places in
    ext_get_or 0 _ _ (length-swz_l w8 16 table 0 places ∙ sym (length-map places (slice_index table)))
    (λ i inside.
    let within : i < length places = omega (arith, length-swz_l w8 16 table 0 places) in
    let position = get_or places i 0 in
    let same : 16 * ((0 + i) / 16) + position ≡ position = omega (arith, c.fits-places.0) in
    cc (
      get_or-swz_l_below w8 16 table 0 places i within (Each1-get_or
          (λ k. k < 16) places i 0 within c.requires),
      get_or-map (slice_index table) places i 0 0 within,
    ))
