use Rattle.std.proofs.Common.{sym, ◌∙◌}
use Rattle.safe_output.proofs.ReportLemmas.{ascii_added, safe_added}
use Rattle.safe_output.proofs.report.push_text.Goals as goal

pub returns-then-are_printable_bytes : goal.returns-then-are_printable_bytes
returns-then-are_printable_bytes c =
    ascii_added _ _ c.args.text.now c.requires
    (rw c.as_bytes.ensures.value at (sym c.are_printable_bytes.ensures ∙ c.if-are_printable_bytes.true))
    c.in_ok-push_str.ensures.bytes

pub returns : goal.returns
returns c =
    safe_added _ _ c.args.text.now c.requires
    (rw c.as_bytes-2.ensures.value at c.in_ok-push_chunks.ensures.added)
