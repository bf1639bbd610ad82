use Rattle.std.proofs.Common.{arith}
use Rattle.texting_robots.specs.Internal.ByteSet.{is_kept}
use Rattle.texting_robots.proofs.LaneLemmas.{ends_tell}
use Rattle.texting_robots.proofs.byte_set.len_by_eights.Goals as goal

pub overflow_add-result : goal.overflow_add-result
overflow_add-result c =
    let (most, some, all) =
    ends_tell (is_kept c.args.set.now) c.args.text.now 8 c.requires.0 c.requires.1 in
    grind (arith, most)

pub returns-then-seen-lt8 : goal.returns-then-seen-lt8
returns-then-seen-lt8 c =
    let (most, some, all) =
    ends_tell (is_kept c.args.set.now) c.args.text.now 8 c.requires.0 c.requires.1 in
    grind (arith, some)

pub returns-else-seen-lt8 : goal.returns-else-seen-lt8
returns-else-seen-lt8 c =
    let (most, some, all) =
    ends_tell (is_kept c.args.set.now) c.args.text.now 8 c.requires.0 c.requires.1 in
    grind (arith, all)
