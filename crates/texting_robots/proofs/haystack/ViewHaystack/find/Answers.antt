use Rattle.std.proofs.{Common.◌≡◌, Common.◌+◌, Common.◌-◌, Common.arith, lemmas.Bool.iff_false}
use Rattle.texting_robots.proofs.SearchLemmas.{open_back, open_found, open_none, after_found, found_nowhere}
use Rattle.texting_robots.proofs.haystack.ViewHaystack.find.Goals as goal

pub returns-then-position-len-clause-none : goal.returns-then-position-len-clause-none
returns-then-position-len-clause-none c =
    let none = open_none c.loop-matched.invariant.first c.loop-matched-test.true (omega arith) in
    found_nowhere c.args.self.now.text c.args.segment.now c.args.rest c.requires.rest none

pub loop-matched-preserved : goal.loop-matched-preserved
loop-matched-preserved c =
    let i = c.loop-matched.invariant in
    let one_more : c.same.new.self.looks ≡ c.loop-matched.self.looks + 1 = c.same.ensures.looks in
    let differs = rw i.text at (iff_false c.same.ensures.answer c.if-same.false) in
    let longest = c.requires.table.borders c.loop-matched.matched (omega arith) (omega arith) in
    record {
      text = cc;
      within = omega arith;
      matched = omega arith;
      first = open_back i.first (omega arith) c.loop-matched-test.true differs longest;
      grows = omega arith;
      looks = omega arith;
    }

pub returns-clause-some : goal.returns-clause-some
returns-clause-some c =
    let i = c.loop-matched.invariant in
    let text = c.args.self.now.text in
    let segment = c.args.segment.now in
    let position = c.loop-matched.position in
    let found = open_found i.first (omega arith) (omega arith) in
    grind (arith, after_found)
