use Rattle.std.proofs.Common.{◌+◌, ◌≡◌, arith, inl, inr, subst}
use Rattle.std.proofs.lemmas.{Bool.iff_false, Bool.cases_lt, List.get_or_read}
use Rattle.texting_robots.specs.Internal.Segments.{AreWithin, MatchesAt, no_entry, pair_set}
use Rattle.texting_robots.proofs.FirstLemmas.{mask_within, none_matches}
use Rattle.texting_robots.proofs.rules.RuleTable.near.Goals.{in-None, in-Some-get}
use Rattle.texting_robots.proofs.rules.RuleTable.near.Goals as goal

pub returns-clause-apart : goal.returns-clause-apart
returns-clause-apart c = λ text known k above below matches.
    let all = c.args.self.now in
    let at = c.args.at in
    let bits = rw c.in-Some.is at known in
    elim (cases_lt at k) [
      | inl later ↦ none_matches all text (at + 1) c.first_near.result c.requires.known c.requires.masked
          (grind arith) k (omega arith) below matches
      | inr early ↦
          let same : k ≡ at = omega arith in
          let here = subst (λ n. MatchesAt all n text) same matches in
          let is = c.requires.known.known at no_entry c.requires.within in
          let within : AreWithin c.match-get.mask.bits (pair_set text) = elim c.match-get.branch [
            | in-Some-get w ↦
                let (_, some, _, (low, _), _) = rw c.deref.ensures.value at w.in-Some-get.ensures.lookup in
                rw (
                  w.mask-is,
                  get_or_read all.masks.items at w.in-Some-get.mask.now low some 0,
                  c.requires.masked at low,
                ) (mask_within all _ is text here)
            | in-None w ↦
                grind (arith, get_or_read, w.index.result.now, w.index.ensures, is.needed)
          ] in
          iff_false c.are_within.ensures c.if-are_within.false (rw bits within)
    ]
