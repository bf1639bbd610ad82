use Rattle.std.proofs.Common.{◌≡◌, ◌∙◌, arith, refl, sym}
use Rattle.std.proofs.lemmas.{List.take-append-drop, List.take_all, Simd.length-chunk}
use lib.Lanes.{chunk}
use Rattle.texting_robots.proofs.LaneLemmas.{same_lanes}
use Rattle.texting_robots.proofs.parser.statement.strip_eight.Goals as goal

pub returns-then-front-name-eq255 : goal.returns-then-front-name-eq255
returns-then-front-name-eq255 c =
    let text = c.args.text.now in
    let name = c.args.name.now in
    let front = c.in_ok-front.front.now in
    let parts = c.in_ok-front.ensures.cases in
    let lanes = length-chunk 0 8 in
    let same = same_lanes (chunk 0 8 front) (chunk 0 8 name) (lanes front (omega (arith, parts.3)))
    (lanes name (omega (arith, c.requires))) c.if-front-name-eq255.true in
    let named : front ≡ name = sym (take_all 8 front (omega (arith, parts.3))) ∙ same
    ∙ take_all 8 name (omega (arith, c.requires)) in
    sym (take-append-drop 8 text) ∙ rw (← parts.1, ← parts.2, named) refl
