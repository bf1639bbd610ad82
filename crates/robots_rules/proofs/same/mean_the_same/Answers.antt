use Rattle.std.proofs.Common.{◌≡◌, ◌∙◌, ◌+◌, ◌++◌, ◌∷◌, [], All, ap, rules, subst, sym, take, take_all}
use Rattle.std.proofs.lemmas.List.{Elements.All-push, take_more}
use Rattle.texting_robots.specs.Callers.{file_lines}
use Rattle.robots_rules.specs.{Search.IsSettled, Search.SettledValue, Needless.MeanTheSame}
use Rattle.robots_rules.proofs.same.mean_the_same.Goals as goal

pub means_the_same-requires : goal.means_the_same-requires
means_the_same-requires c =
    subst (IsSettled (file_lines c.args.site.now)) (sym c.one-item.is)
    (c.requires c.loop-one.one-index c.one-item.result c.loop-one-test.true)

pub loop-one-preserved : goal.loop-one-preserved
loop-one-preserved c =
    let i = c.loop-one.one-index in
    let one = c.one-item.result in
    let before = take i c.args.settled.now in
    let taken : take (i + 1) c.args.settled.now ≡ before ++ one ∷ []
    = take_more c.args.settled.now i one c.loop-one-test.true
    ∙ ap (λ r. before ++ r ∷ []) (sym c.one-item.is) in
    let P = λ (s : SettledValue).
    MeanTheSame s.agent (file_lines c.args.site.now) (file_lines c.args.other.now) in
    let holds : P one = search rules in
    subst (All P) (sym taken) (All-push P before one c.loop-one.invariant holds)

pub returns : goal.returns
returns c = λ _.
    subst (All (λ (s : SettledValue).
    MeanTheSame s.agent (file_lines c.args.site.now) (file_lines c.args.other.now)))
    (take_all c.loop-one.one-index c.args.settled.now c.loop-one-test.false) c.loop-one.invariant
