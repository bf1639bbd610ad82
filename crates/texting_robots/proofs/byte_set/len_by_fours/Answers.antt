use Rattle.std.proofs.Common.{arith}
use Rattle.texting_robots.specs.Internal.ByteSet.{is_kept}
use Rattle.texting_robots.proofs.LaneLemmas.{ends_tell}
use Rattle.texting_robots.proofs.byte_set.len_by_fours.Goals as goal

pub overflow_add-result : goal.overflow_add-result
overflow_add-result c =
    let (most, some, all) =
    ends_tell (is_kept c.args.set.now) c.args.text.now 4 c.requires.0 c.requires.1 in
    grind (arith, most)

pub returns-then-seen-lt4 : goal.returns-then-seen-lt4
returns-then-seen-lt4 c =
    let (most, some, all) =
    ends_tell (is_kept c.args.set.now) c.args.text.now 4 c.requires.0 c.requires.1 in
    grind (arith, some)

pub returns-else-seen-lt4 : goal.returns-else-seen-lt4
returns-else-seen-lt4 c =
    let (most, some, all) =
    ends_tell (is_kept c.args.set.now) c.args.text.now 4 c.requires.0 c.requires.1 in
    grind (arith, all)
