use Rattle.std.proofs.Common.{◌∙◌}
use Rattle.std.proofs.lemmas.Simd.{pick_l_whole}
use Rattle.texting_robots.proofs.LaneLemmas.{joined_ends}
use Rattle.texting_robots.proofs.byte_set.both_fours.Goals as goal

pub returns : goal.returns
returns c =
    let (same, long) = joined_ends 4 c.args.text.now c.requires in
    pick_l_whole 0 _ 8 long ∙ same
