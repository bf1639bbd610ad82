use Rattle.robots_rules.proofs.ReplacedLemmas.{covers_by}
use Rattle.robots_rules.proofs.needless.covers.Goals as goal

pub returns-in-Same : goal.returns-in-Same
returns-in-Same c = λ _.
    covers_by c.args.wide.now.rule.0 c.args.narrow.now.rule.0 (rw (
      c.in-Same.is,
      c.as_slice.ensures.value,
      c.as_slice-2.ensures.value,
      c.in_ok-push-3.ensures.items,
      c.in_ok-push-2.ensures.items,
      c.in_ok-push.ensures.items,
      c.new-both.ensures.items,
      c.new-one.ensures.items,
      c.in_ok-copied.ensures,
      c.in_ok-copied-2.ensures,
      c.in_ok-copied-3.ensures,
    ) at c.in_ok-compared.ensures)
