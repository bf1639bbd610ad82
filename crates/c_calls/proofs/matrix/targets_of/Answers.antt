use Rattle.std.proofs.Common.{ap, map, sym, ◌∙◌}
use Rattle.std.proofs.lemmas.{List.take_all, Simd.map-map}
use Rattle.c_calls.specs.File.{target_in}
use Rattle.c_calls.proofs.{NumberLemmas.one_more_mapped}
use Rattle.c_calls.proofs.matrix.targets_of.Goals as goal

pub loop-url-preserved : goal.loop-url-preserved
loop-url-preserved c =
    rw c.in_ok-push.ensures.items
    (one_more_mapped _ _ _ _ _ _ _ c.loop-url-test.true c.loop-url.invariant c.in_ok-target.ensures)

pub returns : goal.returns
returns c =
    let target = target_in c.args.by_rfc9309 in
    (rw (take_all _ _ c.loop-url-test.false, c.deref-url-items.ensures.value) at c.loop-url.invariant)
    ∙ sym (map-map target (λ url. url.now) c.in_ok-urls.urls.items) ∙ ap (map target) c.in_ok-urls.ensures
