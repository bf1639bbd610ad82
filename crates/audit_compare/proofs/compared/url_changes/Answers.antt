use Rattle.std.proofs.Common.{arith}
use Rattle.std.specs.List.{zip}
use Rattle.std.proofs.lemmas.{Grind.common_steps, List.take_all, List.take_more}
use Rattle.std.proofs.lemmas.Slice.Zip.{get_or-zip, length-zip}
use Rattle.audit_core.specs.Audit.{VerdictValue}
use Rattle.audit_compare.proofs.compared.url_changes.Goals as goal

pub loop-at-preserved : goal.loop-at-preserved
loop-at-preserved c =
    let older = c.args.older.now in
    let newer = c.args.newer.now in
    let at = c.loop-at.at in
    let pair : VerdictValue × VerdictValue = (c.index-older-at.result, c.index-newer-at.result) in
    let size = length-zip older newer in
    rw (
      take_more (zip older newer) at pair (grind (arith, size)),
      get_or-zip older newer at pair
          (grind (arith, size)) (grind (arith, size)),
      ← c.index-older-at.is,
      ← c.index-newer-at.is,
    )
    (grind (arith, common_steps))

pub returns : goal.returns
returns c =
    rw (take_all c.loop-at.at (zip c.args.older.now c.args.newer.now)
    (grind (arith, common_steps, length-zip c.args.older.now c.args.newer.now))) at c.loop-at.invariant
