use Rattle.std.proofs.Common.{refl, rules}
use Rattle.safe_output.proofs.ReportLemmas.{word_colored}
use Rattle.safe_output.proofs.color.push_colored.Goals as goal

pub returns : goal.returns
returns c = λ all is.
    word_colored all c.args.text.now c.in-Some.front.now c.in-Some.later.now
    c.in-Some-split_at_checked.found.now c.in-Some-split_at_checked.rest.now _ _ _ c.args.at _ c.args.level
    c.utf8.text (c.in-Some.ensures.variant.0 refl) c.in-Some.ensures.front c.in-Some.ensures.back
    (c.in-Some-split_at_checked.ensures.variant.0 refl) c.in-Some-split_at_checked.ensures.front
    c.in-Some-split_at_checked.ensures.back (search rules) c.in_ok-push_str.ensures.bytes
    (rw c.shown_word.ensures at c.in_ok-push_str-2.ensures.bytes) is
