use Rattle.std.proofs.{Common.◌-◌, Common.arith, lemmas.Bool.leb-true}
use Rattle.texting_robots.proofs.SearchLemmas.{ends_short, ends_with}
use Rattle.texting_robots.proofs.haystack.ViewHaystack.ends_with.Goals as goal

pub returns-then-segment-len-clause-answer : goal.returns-then-segment-len-clause-answer
returns-then-segment-len-clause-answer c =
    let text = c.args.self.now.text in
    let segment = c.args.segment.now in
    let (at_end, ends) = ends_with text segment c.args.rest (omega arith) in
    grind (arith, ends, c.occurs_at.ensures.answer.0, c.occurs_at.ensures.answer.1, at_end)

pub returns-else-segment-len-clause-answer : goal.returns-else-segment-len-clause-answer
returns-else-segment-len-clause-answer c =
    let text = c.args.self.now.text in
    let segment = c.args.segment.now in (
      grind (arith, leb-true),
      λ i. absurd (let fits = ends_short text segment c.args.rest c.requires i in omega arith),
    )
