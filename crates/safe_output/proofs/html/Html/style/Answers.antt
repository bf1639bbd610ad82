use Rattle.std.proofs.Common.{arith, refl}
use Rattle.safe_output.proofs.PageLemmas.{piece_is, stays_open, style_read}
use Rattle.safe_output.proofs.html.Html.style.Goals as goal

pub invariant_of-self : goal.invariant_of-self
invariant_of-self c =
    stays_open c.self.invariant (λ page. style_read page _ c.requires) c.in-Ok.ensures refl refl

pub returns : goal.returns
returns c =
    grind (arith, piece_is c.self.invariant (λ page. style_read page _ c.requires) c.in-Ok.ensures)
