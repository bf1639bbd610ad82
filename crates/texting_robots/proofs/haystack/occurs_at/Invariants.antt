use Rattle.std.proofs.Common.{◌≡◌, ℕ, ◌+◌, ◌<◌, ◌≤◌, length, get_or}
use Rattle.texting_robots.proofs.haystack.occurs_at.Given as goal

abbrev pub invariant-loop-k : goal.invariant-loop-k
invariant-loop-k l =
    record {
      text : l.view.text ≡ l.fn.view.text;
      fits : l.at + length l.segment ≤ length l.fn.view.text;
      reads : (i : ℕ) → i < l.k → get_or l.fn.view.text (l.at + i) 0 ≡ get_or l.segment i 0;
      looks : l.view.looks ≡ l.fn.view.looks + l.k;
    }
