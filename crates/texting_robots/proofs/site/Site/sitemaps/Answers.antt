use Rattle.std.proofs.Common.{ap, arith, map, ◌∙◌}
use Rattle.std.{proofs.lemmas.List.take_all, specs.List.filter_map}
use Rattle.texting_robots.specs.{Executable.file_lines, Internal.Site.listed, Rules.AreSitemapsOf}
use Rattle.texting_robots.proofs.{ExecutableLemmas.sitemaps_are_computed, MainTheoremLemmas.has_lines}
use Rattle.texting_robots.proofs.SiteOwnLemmas.{listed_more}
use Rattle.texting_robots.proofs.site.Site.sitemaps.Goals as goal

pub loop-span-preserved : goal.loop-span-preserved
loop-span-preserved c = grind (arith, listed_more)

pub returns : goal.returns
returns c =
    let file = c.args.self.now in
    let all = map (λ text. text.now) c.loop-span.all.items in
    let listed_are =
    rw (← c.deref-span-items.ensures.value, c.self.view_is) at c.self.invariant.sitemaps_are in
    let whole =
    take_all c.loop-span.span-index c.deref-span-items.result.now (omega (arith, c.loop-span-test.false)) in
    has_lines file (λ lines. AreSitemapsOf lines all)
    ((sitemaps_are_computed (file_lines file) all).1
    (c.loop-span.invariant ∙ ap (filter_map (listed file)) whole ∙ listed_are))
