use Rattle.std.proofs.{Common.refl}
use Rattle.robots_warnings.proofs.ClosedLemmas.{any_opened, sitemaps_read}
use Rattle.robots_warnings.proofs.closed.exempt_patterns.Goals as goal

pub loop-url-init : goal.loop-url-init
loop-url-init c = λ pattern. rw (
  any_opened pattern c.deref-url-items.result.now,
  c.deref-url-items.ensures.value,
  sitemaps_read c.args.site.now _ c.in_ok-urls.ensures,
  c.in_ok-add_path.ensures pattern,
  c.new-patterns.ensures.empty,
) refl
