use Rattle.std.proofs.Common.{◌≡◌, ◌++◌, ◌∙◌, ap, codes, inl, inr, refl, rules}
use Rattle.std.proofs.lemmas.Option.{IfSome_then}
use Rattle.texting_robots.proofs.normalized.after_site.Goals as goal

pub returns-in-Some : goal.returns-in-Some
returns-in-Some c =
    let whole : c.args.url.now ≡ codes "https://" ++ c.in-Some.authority.now = search rules in
    IfSome_then c.after_authority.result c.after_authority.ensures (λ rest left. (
      codes "https://" ++ left.0,
      whole ∙ ap (λ t. codes "https://" ++ t) left.1,
      inl (left.0, refl, left.2),
    ))

pub returns-in_ok-strip_prefix-in-None : goal.returns-in_ok-strip_prefix-in-None
returns-in_ok-strip_prefix-in-None c =
    let whole : c.args.url.now
    ≡ codes "http://" ++ c.in_ok-strip_prefix-in-None.field-0.now = search rules in
    IfSome_then c.after_authority-in-None.result c.after_authority-in-None.ensures (λ rest left. (
      codes "http://" ++ left.0,
      whole ∙ ap (λ t. codes "http://" ++ t) left.1,
      inr (left.0, refl, left.2),
    ))
