use Rattle.std.proofs.Common.{◌∙◌, arith}
use Rattle.std.proofs.lemmas.Simd.{length-chunk, zip2_of_maps, zip2_splat}
use lib.Lanes.{chunk}
use Rattle.texting_robots.specs.Cut.{cr, lf}
use Rattle.texting_robots.proofs.CutFromFront.{ends_delimited, labeled_first}
use Rattle.texting_robots.proofs.parser.cut.body_len_in.Goals as goal

pub returns : goal.returns
returns g c =
    let n = g.row.N in
    let v = chunk 0 n c.args.text.now in
    let third = c.third_end.result in
    let long = length-chunk 0 n c.args.text.now (omega arith) in
    c.first_lane.ensures ∙ labeled_first c.args.nul_ends _ n v _ (omega arith) long
    (zip2_of_maps _ _ _ v (zip2_of_maps _ _ _ v (zip2_splat _ v n cr long) (zip2_splat _ v n lf long))
    (zip2_splat _ v n third long))
    (ends_delimited c.args.nul_ends third c.third_end.ensures)
