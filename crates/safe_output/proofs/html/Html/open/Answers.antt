use Rattle.std.proofs.Common.{arith}
use Rattle.safe_output.proofs.PageLemmas.{piece_is, start_open, start_read}
use Rattle.safe_output.proofs.html.Html.open.Goals as goal

pub invariant_of-self-in-Ok-push : goal.invariant_of-self-in-Ok-push
invariant_of-self-in-Ok-push c =
    start_open _ _ _ _ _ _ c.self.invariant c.requires.name c.requires.attributes c.in-Ok.ensures
    c.in-Ok-push.ensures.items

pub returns : goal.returns
returns c =
    grind (
      arith,
      piece_is c.self.invariant
          (λ page. start_read page _ _ c.requires.attributes c.requires.name) c.in-Ok.ensures,
    )
