use Rattle.std.proofs.Common.{rules, sym, ◌∙◌}
use Rattle.safe_output.proofs.SanitizeLemmas.{ascii_printable, printable_kept}
use Rattle.safe_output.proofs.sanitize.push_sanitized_in.Goals as goal

pub returns-clause-added : goal.returns-clause-added
returns-clause-added c =
    let are = sym c.are_printable_bytes.ensures ∙ c.if-are_printable_bytes.true in
    let plain = ascii_printable c.args.has_lines c.args.bytes.now are in
    rw (printable_kept c.args.has_lines c.args.bytes.now plain) (search rules)
