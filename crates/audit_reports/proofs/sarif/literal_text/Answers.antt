use Rattle.std.proofs.Common.{List, ℕ, flat_map, sym, ap, ◌∙◌, map-id}
use Rattle.std.specs.Str.{encode_utf8_all}
use Rattle.std.proofs.lemmas.Iterator.{YieldsList-from_chars, Consumers.YieldsList-end}
use Rattle.audit_reports.specs.Sarif.{literal_char}
use Rattle.audit_reports.proofs.MessageLemmas.{literal_next}
use Rattle.audit_reports.proofs.sarif.literal_text.Goals as goal

pub loop-char-preserved : goal.loop-char-preserved
loop-char-preserved c =
    literal_next c.loop-char.yielded c.in-Some.char _ _ c.loop-char.invariant
    c.in_ok-push_literal_char.ensures

pub returns : goal.returns
returns c =
    let end = YieldsList-end (YieldsList-from_chars c.args.text.now c.utf8.text cc) c.loop-char.yielded _
    c.loop-char.yielded_by _ _ c.in-None.is c.next.ensures.steps in
    c.loop-char.invariant
    ∙ ap (λ (chars : List ℕ). encode_utf8_all (flat_map literal_char chars))
    (sym (map-id c.loop-char.yielded) ∙ end.0)
