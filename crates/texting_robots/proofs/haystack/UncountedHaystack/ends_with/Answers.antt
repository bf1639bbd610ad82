use Rattle.std.proofs.{Common.◌-◌, Common.arith, lemmas.Bool.Decides.Decides-eqb, lemmas.Slice.Eq.ends_is}
use Rattle.texting_robots.proofs.haystack.UncountedHaystack.ends_with.Goals as goal

pub returns-clause-answer : goal.returns-clause-answer
returns-clause-answer c =
    let rest = c.args.rest.now in
    let segment = c.args.segment.now in
    let h = ends_is Decides-eqb rest segment c.ends_with.result c.ends_with.ensures.value in
    grind (arith, h.0, h.1)
