use Rattle.std.proofs.Common.{◌≡◌, ◌∙◌, ap, map, rules}
use Rattle.std.specs.Map.Iter.{deref_pair}
use Rattle.std.proofs.lemmas.Map.Iter.{iter_end}
use Rattle.robots_rules.specs.Search.{rule_at}
use Rattle.robots_rules.proofs.lines.listed.Goals as goal

pub returns : goal.returns
returns c =
    let whole : map deref_pair c.loop-line.yielded ≡ c.args.found.now.entries = search (rules, iter_end) in
    c.loop-line.invariant ∙ ap (map rule_at) whole
