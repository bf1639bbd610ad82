use Rattle.std.proofs.Common.{◌∙◌, arith}
use Rattle.std.proofs.lemmas.Simd.{length-chunk, zip2_of_maps, zip2_splat}
use lib.Lanes.{chunk}
use Rattle.texting_robots.{specs.Pattern.dollar, specs.Pattern.star, proofs.LaneLemmas.first_wildcard_lane}
use Rattle.texting_robots.proofs.segments.wildcard_in.Goals as goal

pub returns : goal.returns
returns g c =
    let n = g.row.N in
    let v = chunk 0 n c.args.pattern.now in
    let long = length-chunk 0 n c.args.pattern.now (omega arith) in
    c.first_lane.ensures
    ∙ first_wildcard_lane n v _ (omega arith) long
    (zip2_of_maps _ _ _ v (zip2_splat _ v n star long) (zip2_splat _ v n dollar long))
