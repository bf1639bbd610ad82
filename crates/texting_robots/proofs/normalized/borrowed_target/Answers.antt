use Rattle.std.proofs.Common.{◌≡◌, ◌-◌, ◌∙◌, ap, arith, drop, drop_at, length, length-append, refl, sym}
use Rattle.std.proofs.{Common.append-nil, lemmas.List.nil_from_length}
use Rattle.texting_robots.proofs.PreparedLemmas.{path_some, prepared_alone, prepared_plain}
use Rattle.texting_robots.proofs.normalized.borrowed_target.Goals as goal

pub returns-in-empty : goal.returns-in-empty
returns-in-empty c = grind (arith, append-nil, nil_from_length, prepared_alone)

pub returns-in-47 : goal.returns-in-47
returns-in-47 c =
    let url = c.args.url.now in
    let target = c.in_ok-target.target.now in
    let (site, assembled, is_site) = rw c.as_bytes.ensures.value at c.in_ok-target.ensures in
    let is = c.if-is_target.ensures refl in
    let front : length site ≡ length url - length target =
    omega (arith, ap length assembled, length-append site target) in
    c.range_from.ensures.value ∙ ap (drop _) assembled ∙ drop_at site target _ front
    ∙ sym (prepared_plain url target (site, assembled, is_site) is (path_some target (omega arith) is))
