use Rattle.std.proofs.Common.{◌≡◌, ◌<◌, ap, arith, get_or, length}
use Rattle.std.proofs.lemmas.{List.get_or_default}
use Rattle.texting_robots.specs.{Cost.looks_of, View.seen_of}
use Rattle.texting_robots.specs.Internal.Segments.{no_entry, pattern_of}
use Rattle.texting_robots.proofs.FirstLemmas.{cost_more, cost_upto}
use Rattle.texting_robots.proofs.rules.Rules.cost.Goals as goal

pub loop-entry-preserved : goal.loop-entry-preserved
loop-entry-preserved c =
    let all = c.self.inside.table in
    let at = c.loop-entry.entry-index in
    let n = c.args.len in
    let entry = get_or all.entries.items at no_entry in
    let items = c.deref-entry-items.ensures.value in
    let below : at < length all.entries.items = omega (arith, ap length items, c.loop-entry-test.true) in
    let pattern = rw items at c.pattern.ensures in
    let most : c.most_looks-looks.result ≡ seen_of (looks_of (pattern_of all entry) n) =
    rw pattern at c.most_looks-looks.ensures in
    grind (arith, cost_more, cost_upto, get_or_default)
