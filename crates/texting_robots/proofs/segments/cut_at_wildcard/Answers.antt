use Rattle.std.proofs.{Common.not, Common.arith, lemmas.List.Sums.prefix_len-le-length}
use Rattle.texting_robots.specs.{Internal.Segments.is_wildcard}
use Rattle.texting_robots.proofs.segments.cut_at_wildcard.Goals as goal

pub split_at-requires : goal.split_at-requires
split_at-requires c =
    omega (
      arith,
      c.wildcard_at.ensures,
      prefix_len-le-length
          (λ b. not (is_wildcard b)) c.args.pattern.now,
    )
