use Rattle.std.proofs.Common.{◌≡◌, ◌||◌, ℕ, List, drop, length, nat_lt}
use Rattle.std.specs.{HashSet.contains_text, List.list_any}
use Rattle.robots_warnings.specs.Closed.{is_rival, leaves_closed}
use Rattle.robots_warnings.proofs.closed.needed.Given as goal

abbrev pub invariant-loop-rule : goal.invariant-loop-rule
invariant-loop-rule l = (pattern : List ℕ)
    → (nat_lt (length pattern) l.needed
    || list_any (is_rival (leaves_closed (contains_text l.exempt)) pattern) (drop l.rule-index l.rules))
    ≡ list_any (is_rival (leaves_closed (contains_text l.exempt)) pattern) l.rules
