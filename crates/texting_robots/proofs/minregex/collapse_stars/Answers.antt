use Rattle.std.proofs.Common.{Some, None, string_bytes, arith}
use Rattle.std.proofs.lemmas.{Bool.iff_false, Str.encode_ascii}
use Rattle.std.proofs.lemmas.Str.Pattern.{split_parts, starts_char}
use Rattle.texting_robots.specs.Pattern.{star}
use Rattle.texting_robots.proofs.CollapseLemmas.{collapse_end, star_goes, star_stays}
use Rattle.texting_robots.proofs.minregex.collapse_stars.Goals as goal

pub loop-before-preserved-in_ok-push : goal.loop-before-preserved-in_ok-push
loop-before-preserved-in_ok-push c =
    let i = c.loop-before.invariant in
    let rest = c.loop-before.rest.now in
    let (split, plain) =
    split_parts star rest (Some (c.in-Some.before, c.in-Some.after)) c.in-Some.ensures.cases (omega arith) in
    let after = c.in-Some.after.now in
    let cases = c.starts_with.ensures.cases in
    let next = starts_char star after c.starts_with.result cases (omega arith) (omega arith) in
    let other = iff_false next c.if-not-starts_with.true in
    let stays =
    star_stays (string_bytes c.loop-before.text) c.in-Some.before.now after rest split plain other in
    grind (arith, encode_ascii, c.in_ok-push_str.ensures.bytes)

pub loop-before-preserved : goal.loop-before-preserved
loop-before-preserved c =
    let i = c.loop-before.invariant in
    let rest = c.loop-before.rest.now in
    let (split, plain) =
    split_parts star rest (Some (c.in-Some.before, c.in-Some.after)) c.in-Some.ensures.cases (omega arith) in
    let after = c.in-Some.after.now in
    let cases = c.starts_with.ensures.cases in
    let next = starts_char star after c.starts_with.result cases (omega arith) (omega arith) in
    let two = next.0 c.if-not-starts_with.false in
    let goes = star_goes (string_bytes c.loop-before.text) c.in-Some.before.now after rest split plain two in
    grind arith

pub returns : goal.returns
returns c =
    let rest = c.loop-before.rest.now in
    let plain = split_parts star rest None c.in_default.ensures.cases (omega arith) in
    grind (arith, collapse_end)
