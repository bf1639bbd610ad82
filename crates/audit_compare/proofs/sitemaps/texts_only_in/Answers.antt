use Rattle.std.proofs.Common.{[], arith}
use Rattle.std.proofs.lemmas.{Grind.common_steps}
use Rattle.audit_compare.proofs.SitemapLemmas.{found_next, listed_now, met_next}
use Rattle.audit_compare.proofs.sitemaps.texts_only_in.Goals.{else-branch, then-branch+in_ok-push}
use Rattle.audit_compare.proofs.sitemaps.texts_only_in.Goals as goal

pub loop-other-preserved : goal.loop-other-preserved
loop-other-preserved c =
    met_next _ _ c.args.others.now c.loop-other.other-index _ c.loop-other-test.true
    c.in_ok-insert.ensures.updates [] c.loop-other.invariant

pub loop-text-preserved : goal.loop-text-preserved
loop-text-preserved c =
    let before = c.loop-text.invariant in
    let inserts = c.in_ok-insert-2.ensures in
    record {
      met = met_next _ _ c.args.texts.now c.loop-text.text-index _ c.loop-text-test.true inserts.updates
          c.args.others.now before.met;
      found = found_next _ _ c.args.texts.now c.loop-text.text-index _ c.loop-text-test.true inserts.updates
          c.args.others.now before.met _ c.if-branch.found.items _ inserts.added
          (elim c.if-branch.branch [
            | then-branch+in_ok-push w ↦ grind (arith, common_steps)
            | else-branch w ↦ grind (arith, common_steps)
          ]) before.found;
    }

pub returns : goal.returns
returns c = record {
  each = λ text. rw (listed_now, listed_now, listed_now)
      (grind (arith, common_steps, c.loop-text.invariant.found text));
}
