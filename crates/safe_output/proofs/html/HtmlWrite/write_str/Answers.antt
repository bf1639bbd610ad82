use Rattle.std.proofs.Common.{arith, refl}
use Rattle.safe_output.proofs.PageLemmas.{data_now, piece_is, shown_read, stays_open}
use Rattle.safe_output.proofs.html.HtmlWrite.write_str.Goals as goal

pub invariant_of-self : goal.invariant_of-self
invariant_of-self c =
    stays_open c.self.invariant (λ page. shown_read page _) c.in-Ok.ensures refl refl

pub returns : goal.returns
returns c = record {
  ok =
      grind (
        arith,
        data_now c.self.invariant,
        piece_is c.self.invariant (λ page. shown_read page _) c.in-Ok.ensures,
      );
}
