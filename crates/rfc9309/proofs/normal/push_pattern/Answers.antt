use Rattle.std.proofs.Common.{◌∙◌, append-nil, append_assoc, arith, false, sym, true}
use Rattle.std.proofs.lemmas.Grind.{common_steps}
use Rattle.rfc9309.proofs.PatternLemmas.{pattern_parts}
use Rattle.rfc9309.proofs.normal.push_pattern.Goals as goal

pub returns-in_ok-push : goal.returns-in_ok-push
returns-in_ok-push c =
    let parts = pattern_parts c.args.path.now true (sym c.if-ends_with.true ∙ c.ends_with.ensures.value) in
    let pushed = c.in_ok-push_normal.ensures in
    let items = c.in_ok-push.ensures.items in
    grind (arith, common_steps, append_assoc)

pub returns-else-ends_with : goal.returns-else-ends_with
returns-else-ends_with c =
    let parts = pattern_parts c.args.path.now false (sym c.if-ends_with.false ∙ c.ends_with.ensures.value) in
    let pushed = c.in_ok-push_normal.ensures in
    grind (arith, common_steps, append-nil)
