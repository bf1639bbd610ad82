use Rattle.std.proofs.Common.{◌≡◌, rules, true}
use Rattle.std.proofs.lemmas.{Bool.Decides.Decides-eqb, Slice.Eq.starts_is}
use Rattle.robots_rules.proofs.refine.differ_on.Goals as goal
use Rattle.robots_rules.proofs.ClosureLemmas.{still_agrees}

pub returns : goal.returns
returns c = λ _.
    let begins : c.starts_with.result ≡ true = search rules in
    let text = c.args.text.now in
    let whole = c.in_ok-whole.ensures in (
      _,
      (starts_is Decides-eqb text c.args.front.now c.starts_with.result c.starts_with.ensures.value).0
          begins,
      λ same. c.agrees_at_end.ensures.differs c.if-agrees_at_end.false
          (still_agrees text c.in_ok-whole.whole c.in_ok-state.state c.args.pool.now c.in_ok-state.ensures
          whole.old
          whole.new same),
    )
