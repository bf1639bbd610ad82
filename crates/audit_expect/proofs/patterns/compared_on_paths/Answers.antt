use Rattle.std.proofs.Common.{◌≡◌, ◌∙◌, length, refl, rules, sym, vec_len}
use Rattle.std.proofs.Math.Seq.{take-append_seam}
use Rattle.audit_expect.proofs.PatternLemmas.{all_hold}
use Rattle.audit_expect.proofs.patterns.compared_on_paths.Goals as goal

pub returns : goal.returns
returns c = λ same.
    let size : vec_len c.args.rules ≡ length c.args.rules.items = search rules in
    all_hold c.args.rules.items _ _ c.args.allowed c.in_ok-longer.ensures
    (rw (c.deref-2.ensures.value, c.as_bytes.ensures.value)
    at (sym c.are_shorter.ensures ∙ c.if-not-are_shorter.false)) refl
    (rw (
      same,
      c.deref-3.ensures.value,
      c.deref-4.ensures.value,
      c.in_ok-push.ensures.items,
      c.len-number.ensures ∙ size,
      take-append_seam,
    ) at c.in_ok-compare.ensures)
