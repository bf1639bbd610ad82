use Rattle.std.proofs.Common.{arith}
use Rattle.std.proofs.lemmas.{Bool.false_from_ne_true, Str.IsUtf8-from_is_utf8, Str.is_utf8-from_IsUtf8}
use Rattle.texting_robots.proofs.NormalizedLemmas.{plain_ascii}
use Rattle.texting_robots.proofs.builder.decoded.Goals as goal

pub ascii_str-requires : goal.ascii_str-requires
ascii_str-requires c = grind (arith, plain_ascii)

pub returns-then-not-holds_escaped : goal.returns-then-not-holds_escaped
returns-then-not-holds_escaped c =
    grind (arith, is_utf8-from_IsUtf8, plain_ascii, c.if-not-holds_escaped.true)

pub returns-in-Ok : goal.returns-in-Ok
returns-in-Ok c = grind (arith, is_utf8-from_IsUtf8)

pub returns-in-Err : goal.returns-in-Err
returns-in-Err c =
    false_from_ne_true _ (λ is. c.in-Err.ensures.cases.0 (IsUtf8-from_is_utf8 c.args.value.now is))
