use Rattle.std.proofs.Common.{◌≡◌, ◌+◌, ◌-◌, arith, drop, length, length-drop, rules, sym, take, take_all}
use Rattle.std.proofs.lemmas.List.{length-take}
use Rattle.std.proofs.lemmas.List.Elements.{Contains-append_right}
use Rattle.std.specs.List.{Contains}
use Rattle.robots_rules.proofs.ReplacedLemmas.{replaced}
use Rattle.robots_rules.proofs.needless.overruled.Goals as goal

pub returns-then-branch : goal.returns-then-branch
returns-then-branch c = λ sure.
    let all = c.args.rules.now in
    let at = c.args.at in
    let other = c.index-above-k.result in
    let above = drop (at + 1) all in
    let most = length all - (at + 1) in
    let whole : take most above ≡ above = take_all most above (omega (arith, length-drop (at + 1) all)) in
    let listed : Contains (take most above) other = (
      c.loop-k.k - 1,
      grind (arith, length-drop (at + 1) all, length-take most above, c.loop-k-test.true, c.loop-k.auto.k),
      sym c.index-above-k.is,
    ) in
    replaced all at c.index-rules-at.result c.requires c.index-rules-at.is other
    (Contains-append_right (take at all) above other (rw whole at listed))
    (c.in_ok-is_wider.ensures (search rules)) (c.replaces-is_sure.ensures sure)
