use Rattle.std.proofs.Common.{◌≡◌, ◌+◌, ◌-◌, ◌*◌, ◌≤◌, length}
use Rattle.texting_robots.proofs.SearchLemmas.{IsFirstOpen}
use Rattle.texting_robots.proofs.haystack.ViewHaystack.find.Given as goal

-- the search has taken at most twice as many looks as offsets were passed, less the matched bytes
abbrev pub invariant-loop-matched : goal.invariant-loop-matched
invariant-loop-matched l =
    record {
      text : l.self.text ≡ l.fn.self.text;
      within : l.position ≤ l.len;
      matched : l.matched ≤ length l.segment;
      first : IsFirstOpen l.fn.self.text l.segment l.rest (length l.fn.self.text) l.position l.matched;
      grows : l.fn.self.looks ≤ l.self.looks;
      looks : l.self.looks + l.matched + 2 * l.rest ≤ l.fn.self.looks + 2 * l.position;
    }

abbrev pub decreases-loop-matched : goal.decreases-loop-matched
decreases-loop-matched l = 2 * (l.len - l.position) + l.matched
