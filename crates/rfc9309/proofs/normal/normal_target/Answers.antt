use Rattle.std.proofs.Common.{◌≡◌, arith, true}
use Rattle.std.proofs.lemmas.{Bool.false≢true, Grind.common_steps}
use Rattle.rfc9309.specs.{Matching.normal_from, StandardTarget.reading_of}
use Rattle.rfc9309.specs.declared.normal.Side.TheVariants as side
use Rattle.rfc9309.proofs.PatternLemmas.{from_start, uri_utf8}
use Rattle.rfc9309.proofs.normal.normal_target.Goals as goal

pub unreachable-requires : goal.unreachable-requires
unreachable-requires c =
    let is : c.push_normal.new.normal.items ≡ normal_from (reading_of side.Uri) true c.args.target.now =
    grind (arith, common_steps) in
    let ok = c.from_utf8.ensures.succeeds (rw is (uri_utf8 c.args.target.now)) in
    absurd (false≢true (rw c.in-Err.is at ok))

pub returns : goal.returns
returns c =
    let same = from_start side.Uri c.args.target.now in
    grind (arith, common_steps)
