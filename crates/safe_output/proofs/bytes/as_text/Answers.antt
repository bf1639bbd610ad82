use Rattle.std.proofs.lemmas.{Bool.false_from_ne_true, Str.IsUtf8-from_is_utf8, Str.is_utf8-from_IsUtf8}
use Rattle.safe_output.proofs.bytes.as_text.Goals as goal

pub returns-in-Ok : goal.returns-in-Ok
returns-in-Ok c = (is_utf8-from_IsUtf8 c.args.value.now c.in-Ok.ensures.cases.1, c.in-Ok.ensures.cases.0)

pub returns-in-Err : goal.returns-in-Err
returns-in-Err c =
    false_from_ne_true _ (λ is. c.in-Err.ensures.cases.0 (IsUtf8-from_is_utf8 c.args.value.now is))
