use Rattle.std.proofs.Common.{ap, arith, drop_at, length, length-append, ◌∙◌, ◌≡◌, ◌-◌, drop}
use Rattle.url.specs.{Parts.text_before, declared.slicing.Position.TheVariants.BeforePath}
use Rattle.texting_robots.{specs.Prepared.target_of, proofs.PreparedLemmas.target_last}
use Rattle.texting_robots.proofs.prepared.into_target.Goals as goal

pub returns : goal.returns
returns c =
    let u = c.args.url in
    let whole = c.from-text.ensures ∙ target_last u in
    let front : length (text_before u BeforePath)
    ≡ length c.as_str.result.now - length c.target.result.now =
    omega (
      arith,
      ap length (c.as_str.ensures.value ∙ target_last u),
      ap length c.target.ensures,
      length-append (text_before u BeforePath) (target_of u),
    ) in
    c.in_ok-replace_range.ensures.bytes ∙ ap (drop _) whole
    ∙ drop_at (text_before u BeforePath) (target_of u) _ front
