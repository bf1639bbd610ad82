use Rattle.std.proofs.Common.{◌≡◌, ◌+◌, arith, length, ◌∙◌}
use Rattle.std.proofs.lemmas.Bool.{iff_false}
use Rattle.texting_robots.proofs.FirstLemmas.{cost_counts, cost_more, cost_within, tried_more, tried_to}
use Rattle.texting_robots.proofs.rules.RuleTable.first_within.Goals as goal

pub returns-then-left-apart-clause-costly : goal.returns-then-left-apart-clause-costly
returns-then-left-apart-clause-costly c =
    let all = c.args.self.now in
    let n = length c.args.view.now.text in
    let near = c.near-near.result in
    let counts = cost_counts all n c.loop-at.at near (omega arith) (omega arith) in
    omega (arith, c.loop-at.invariant.tried.spent, c.seen.ensures, counts, cost_within all n near)

pub returns-then-left-most_looks-clause-costly : goal.returns-then-left-most_looks-clause-costly
returns-then-left-most_looks-clause-costly c =
    let all = c.args.self.now in
    let n = length c.args.view.now.text in
    let most = rw (c.pattern-pattern.ensures, c.len-len.ensures) at c.most_looks.ensures in
    let more = cost_more all n c.loop-at.at c.index.result.now (omega arith) c.index.ensures in
    grind (arith, cost_within)

pub loop-at-preserved-then-at-near : goal.loop-at-preserved-then-at-near
loop-at-preserved-then-at-near c =
    let i = c.loop-at.invariant in
    let all = c.args.self.now in
    let at = c.loop-at.at in
    let near = c.near-near.result in
    let looks = c.count.ensures.looks in
    let counts = cost_counts all (length c.args.view.now.text) at near (omega arith) (omega arith) in
    grind (arith, tried_to, c.near-near.ensures.apart)

pub loop-at-preserved : goal.loop-at-preserved
loop-at-preserved c =
    let i = c.loop-at.invariant in
    let all = c.args.self.now in
    let most = rw (c.pattern-pattern.ensures, c.len-len.ensures) at c.most_looks.ensures in
    let counted = c.count-in-loop-at.ensures in
    let one : c.count-in-loop-at.new.self.looks ≡ c.loop-at.view.looks + 1 = counted.looks in
    let is = rw (c.pattern-pattern.ensures, counted.text ∙ i.tried.text) at c.matches.ensures in
    record {
      at = omega arith;
      tried = tried_more all _ _ _ c.loop-at.at c.index.result.now (omega arith) c.index.ensures
          (iff_false is.answer c.if-matches.false) (cc)
          (omega (arith, one, is.looks.looks)) (omega (arith, one, is.cost)) i.tried;
      visits = omega (arith, i.visits, one, is.looks.looks);
      within = omega (arith, one, is.cost, most, c.seen.ensures);
    }
