use Rattle.std.proofs.Common.{◌∙◌, append-nil, arith, sym}
use Rattle.std.proofs.lemmas.Grind.{common_steps}
use Rattle.rfc9309.specs.{StandardTarget.reading_of}
use Rattle.rfc9309.proofs.PatternLemmas.{next_escape, next_octet, nothing_left}
use Rattle.rfc9309.proofs.normal.push_normal.Goals as goal

pub loop-rest-preserved-then-begins_escape : goal.loop-rest-preserved-then-begins_escape
loop-rest-preserved-then-begins_escape c =
    let is = c.if-begins_escape.true in
    let next = next_escape (reading_of c.args.side) c.loop-rest.rest.now (c.begins_escape.ensures.within is)
    (sym c.begins_escape.ensures.value ∙ is) in
    let whole = c.loop-rest.invariant in
    let pushed = c.in_ok-push_escape.ensures in
    grind (arith, common_steps)

pub loop-rest-preserved : goal.loop-rest-preserved
loop-rest-preserved c =
    let next = next_octet (reading_of c.args.side) c.loop-rest.rest.now (omega arith)
    (sym c.begins_escape.ensures.value ∙ c.if-begins_escape.false) in
    let whole = c.loop-rest.invariant in
    let copied = c.copied_len-copied.ensures.value in
    let extended = c.in_ok-extend_from_slice.ensures in
    let pushed = c.in_ok-push_octet.ensures in
    grind (arith, common_steps)

pub returns : goal.returns
returns c =
    let none = nothing_left (reading_of c.args.side) c.loop-rest.rest.now (omega arith) in
    let whole = rw none at c.loop-rest.invariant in
    rw append-nil at whole
