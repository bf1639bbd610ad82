use Rattle.std.proofs.Common.{◌+◌, drop, rules, sym, take}
use Rattle.std.proofs.lemmas.List.Elements.{Contains-append_left}
use Rattle.robots_rules.proofs.ReplacedLemmas.{replaced}
use Rattle.robots_rules.proofs.needless.covered.Goals as goal

pub returns-then-replaces : goal.returns-then-replaces
returns-then-replaces c = λ sure.
    let all = c.args.rules.now in
    let at = c.args.at in
    let other = c.index-below-k.result in
    replaced all at c.index-rules-at.result c.requires c.index-rules-at.is other
    (Contains-append_left (take at all) (drop (at + 1) all) other
    (c.loop-k.k, search (rules, c.loop-k-test.true), sym c.index-below-k.is))
    (c.in_ok-is_wider.ensures (search rules)) (c.replaces.ensures (search rules))
