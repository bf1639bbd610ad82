use Rattle.std.proofs.Common.{map, refl, arith}
use Rattle.std.{specs.Str.str_to_ascii_lowercase, proofs.lemmas.List.length-map}
use Rattle.texting_robots.specs.Internal.Site.{tag_at}
use Rattle.texting_robots.proofs.{SiteNameLemmas.first_here, SiteOwnLemmas.whole_walk}
use Rattle.texting_robots.proofs.site.own.OwnLines.new.Goals as goal

pub invariant_of-result : goal.invariant_of-result
invariant_of-result c = grind (arith, first_here)

pub returns : goal.returns
returns c =
    whole_walk (str_to_ascii_lowercase c.args.name.now)
    (record { name_index = c.first.result; group = 0; at = c.first_line.result }) c.args.names.now
    (map (tag_at c.args.text.now) c.args.lines.now) c.first.ensures refl c.first_line.ensures.unnamed
    (λ some. omega (
      arith,
      c.first_line.ensures.named some,
      length-map c.args.lines.now
          (tag_at c.args.text.now),
    ))
