use Rattle.std.proofs.Common.{◌≡◌, ◌∙◌, ◌+◌, ◌++◌, ◌∷◌, [], All, ap, subst, sym, take, take_all}
use Rattle.std.proofs.lemmas.List.{Elements.All-push, take_more}
use Rattle.robots_rules.specs.{Search.IsNoRival}
use Rattle.robots_rules.proofs.needless.has_rival.Goals as goal

pub loop-other-preserved : goal.loop-other-preserved
loop-other-preserved c =
    let i = c.loop-other.other-index in
    let other = c.other-item.result in
    let before = take i c.args.rules.now in
    let taken : take (i + 1) c.args.rules.now ≡ before ++ other ∷ []
    = take_more c.args.rules.now i other c.loop-other-test.true
    ∙ ap (λ r. before ++ r ∷ []) (sym c.other-item.is) in
    let P = IsNoRival c.args.least c.args.rule.now in
    subst (All P) (sym taken)
    (All-push P before other c.loop-other.invariant (c.is_rival.ensures c.if-is_rival.false))

pub returns : goal.returns
returns c = λ _.
    subst (All (IsNoRival c.args.least c.args.rule.now))
    (take_all c.loop-other.other-index c.args.rules.now c.loop-other-test.false) c.loop-other.invariant
