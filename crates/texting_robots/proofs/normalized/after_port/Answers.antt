use Rattle.std.proofs.{Common.arith, Common.refl, Common.subst, lemmas.List.take_rest}
use Rattle.texting_robots.{specs.Internal.Normalized.IsOther, proofs.NormalizedLemmas.port_read}
use Rattle.texting_robots.proofs.normalized.after_port.Goals as goal

pub returns-then-is_port : goal.returns-then-is_port
returns-then-is_port c =
    let digits = rw take_rest at c.split.ensures.front in
    let other = subst (IsOther c.args.own) digits (c.if-is_port.ensures refl) in
    rw (rw take_rest at c.split.ensures.rest) (port_read c.args.own c.args.text.now (omega arith) other)
