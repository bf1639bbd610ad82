use Rattle.std.proofs.Common.{Bor, List, map, ℕ}
use Rattle.robots_rules.proofs.LeftLemmas.{same_sitemaps}
use Rattle.robots_rules.proofs.same.have_same_sitemaps.Goals as goal

pub returns : goal.returns
returns c = λ is.
    let name = λ (text : Bor (List ℕ)). text.now in
    same_sitemaps c.args.site.now c.args.other.now (map name c.in_ok-sitemaps.sitemaps.items)
    (map name c.in_ok-others.others.items) c.in_ok-sitemaps.ensures c.in_ok-others.ensures
    (rw (c.as_slice.ensures.value, c.as_slice-2.ensures.value) at (c.are_same_texts.ensures is))
