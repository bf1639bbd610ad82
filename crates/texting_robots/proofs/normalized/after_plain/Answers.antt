use Rattle.std.proofs.Common.{◌∙◌, ap, arith, drop, length}
use Rattle.std.proofs.lemmas.List.{take_rest, Folds.length-prefix_len}
use Rattle.texting_robots.specs.{Internal.Normalized.is_kept, declared.normalized.TheConstants.OPEN}
use Rattle.texting_robots.proofs.NormalizedLemmas.{open_end, open_read, open_rest}
use Rattle.texting_robots.proofs.normalized.after_plain.Goals as goal

pub returns-then-not-begins_dotted-clause-passed : goal.returns-then-not-begins_dotted-clause-passed
returns-then-not-begins_dotted-clause-passed c =
    rw (rw take_rest at c.split.ensures.rest) (open_rest c.args.text.now (omega arith))

pub returns-in-47-2-clause-passed : goal.returns-in-47-2-clause-passed
returns-in-47-2-clause-passed c =
    let front = ap length (rw take_rest at c.split.ensures.front) in
    let len = front ∙ length-prefix_len (is_kept OPEN.now) (drop 1 c.args.text.now) in
    rw take_rest (open_read (length c.split.result.0.now) c.args.text.now (omega arith) (omega (arith, len)))

pub returns-in_default-2-clause-passed : goal.returns-in_default-2-clause-passed
returns-in_default-2-clause-passed c =
    let front = ap length (rw take_rest at c.split.ensures.front) in
    let len = front ∙ length-prefix_len (is_kept OPEN.now) (drop 1 c.args.text.now) in
    rw (rw take_rest at c.after.ensures)
    (open_end (length c.split.result.0.now) c.args.text.now (omega arith) (omega (arith, len)))
