use Rattle.std.proofs.Common.{ap, length, sym, ◌∙◌, arith}
use Rattle.std.{specs.Str.str_to_ascii_lowercase, proofs.lemmas.List.length-map}
use Rattle.texting_robots.specs.Internal.Site.{named_of}
use Rattle.texting_robots.proofs.{SiteNameLemmas.first_within, SiteGroupLemmas.names_any}
use Rattle.texting_robots.proofs.site.Site.is_named.Goals as goal

pub returns : goal.returns
returns c =
    let name = str_to_ascii_lowercase c.args.agent.now in
    let names_are = rw c.self.view_is at c.self.invariant.names_are in
    let count = sym (length-map c.lines.result.now named_of) ∙ ap length c.lines.ensures in
    grind (arith, first_within, names_any)
