use Rattle.std.proofs.{Common.arith, Common.length-drop, lemmas.Bool.eqb-true, lemmas.List.drop_all}
use Rattle.texting_robots.proofs.haystack.ViewHaystack.is_at_end.Goals as goal

pub returns : goal.returns
returns c =
    let text = c.args.self.now.text in
    let position = c.args.rest in
    let left = length-drop position text in grind (arith, drop_all, eqb-true)
