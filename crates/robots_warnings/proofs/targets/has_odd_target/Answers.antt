use Rattle.std.proofs.Common.{◌∙◌, refl, sym}
use Rattle.robots_warnings.proofs.targets.has_odd_target.Goals as goal

pub returns-then-not-branch : goal.returns-then-not-branch
returns-then-not-branch c =
    let is_path = rw c.as_bytes.ensures.value at (sym c.starts_with.ensures.value ∙ c.if-not-starts_with.true) in
    rw (is_path, sym c.in_ok-is_parsable_url.ensures ∙ c.if-not-branch.true) refl
