use Rattle.std.proofs.Common.{◌+◌, ◌*◌, ◌<◌, ◌≡◌, add-one, arith, length, mul-suc, refl}
use Rattle.std.proofs.{Math.Nat.mul-le-mul_left, lemmas.Bool.iff_false}
use Rattle.texting_robots.proofs.FirstLemmas.{cost_counts, cost_more, cost_within, none_matches}
use Rattle.texting_robots.proofs.FirstLemmas.{tried_more, tried_to}
use Rattle.texting_robots.proofs.rules.RuleTable.first_match.Goals as goal

pub rules-preserved : goal.rules-preserved
rules-preserved g c =
    let i = c.loop-at.invariant in
    let next = rw c.deref-in-rules.ensures.value at c.next-next.ensures in
    let all = c.args.self.now in
    let n = length (g.A.Haystack.seen c.args.haystack.now).text in
    let more = mul-le-mul_left (2 * n) next.from in
    let counts = cost_counts all n c.loop-at.at c.next-next.result.start (omega arith) (omega arith) in
    record {
      within = omega arith;
      end = omega arith;
      tried = rw next.same (tried_to all _ _ _ c.loop-at.at _
          (none_matches all _ _ _ c.requires.known c.requires.masked (rw i.tried.text at next.apart))
          refl (omega arith) (omega (arith, counts)) i.tried);
      cost = rw next.same (omega (arith, i.cost, more));
    }

pub loop-at-preserved : goal.loop-at-preserved
loop-at-preserved g c =
    let i = c.loop-at.invariant in
    let is = rw i.tried.text at c.is_match.ensures in
    let all = c.args.self.now in
    let at = c.loop-at.at in
    let n = length (g.A.Haystack.seen c.args.haystack.now).text in
    let within : at < length all.entries.items = omega arith in
    let more : 2 * n * (at + 1) ≡ 2 * n * at + 2 * n = rw add-one (mul-suc (2 * n) at) in
    record {
      within = omega arith;
      tried = tried_more all _ _ _ at c.index.result.now within c.index.ensures
          (iff_false is.answer c.if-is_match.false) c.is_match.ensures.looks.text is.looks.looks
          (omega (arith, is.cost)) i.tried;
      cost = omega (arith, i.cost, is.looks.cost, more);
    }

pub returns-then-is_match-clause-cost : goal.returns-then-is_match-clause-cost
returns-then-is_match-clause-cost g c =
    let i = c.loop-at.invariant in
    let all = c.args.self.now in
    let n = length (g.A.Haystack.seen c.args.haystack.now).text in
    let more = cost_more all n c.loop-at.at c.index.result.now (omega arith) c.index.ensures in
    grind (arith, cost_within)
