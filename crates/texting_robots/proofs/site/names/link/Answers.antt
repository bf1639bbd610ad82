use Rattle.std.proofs.Common.{◌≡◌, ◌<◌, ◌-◌, ◌+◌, ap, arith, length, map, refl, subst, ◌∙◌}
use Rattle.std.{specs.Str.str_to_ascii_lowercase, proofs.lemmas.List.length-map}
use Rattle.texting_robots.specs.Internal.Site.{AreLinked, bucket_of, named_of}
use Rattle.texting_robots.proofs.SiteNameLemmas.{agent_at, linked_more, linked_none}
use Rattle.texting_robots.proofs.site.names.link.Goals as goal

pub loop-position-init : goal.loop-position-init
loop-position-init c = grind (arith, length-map, linked_none)

pub loop-position-preserved : goal.loop-position-preserved
loop-position-preserved c =
    let lines = c.args.lines.now in
    let names = map named_of lines in
    let position = c.loop-position.position - 1 in
    let line = c.index-lines-position.result in
    let at = agent_at lines names position line refl (omega arith) c.index-lines-position.is in
    let same : c.loop-position.position ≡ position + 1 = omega arith in
    let linked = subst (λ k. AreLinked k names c.loop-position.heads c.loop-position.nexts) same
    c.loop-position.invariant.linked in
    let its = rw (c.deref.ensures.value, ← c.index-lines-position.is) at c.bucket_of-bucket.ensures.value
    ∙ ap (λ count. bucket_of count (str_to_ascii_lowercase line.name.items)) linked.buckets in
    let within : c.bucket_of-bucket.result < length names = omega (arith, linked.buckets) in record {
      within = omega arith;
      linked = linked_more names position c.bucket_of-bucket.result (named_of line) c.loop-position.heads
          c.loop-position.nexts at its within linked;
    }
