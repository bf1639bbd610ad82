-- How many looks a query may take at most.
use Rattle.std.specs.Prelude.{ℕ, ◌+◌, ◌*◌, ◌==◌, List, if◌then◌else◌, nat_lt, slice_index}
use Rattle.std.specs.List.{position_or_len, sum_by}
use Rattle.texting_robots.specs.{Pattern.is_wildcard, Pattern.star, Rules.PlacedRule}

-- the most looks that a pattern takes on a text of n bytes: none if more bytes than that precede its first
-- star or dollar; otherwise two at each byte of the text for a star, or one at each of the bytes before
abbrev pub looks_of : List ℕ → ℕ → ℕ
looks_of pattern n =
    let first = position_or_len is_wildcard pattern in
    if nat_lt n first then 0 else (if slice_index pattern first == star then 2 * n else first)

-- what a query costs at most for a text of n bytes: one for each rule, and its looks
abbrev pub cost_of : List PlacedRule → ℕ → ℕ
cost_of rules n = sum_by (λ (placed : PlacedRule). 1 + looks_of placed.rule.0 n) rules
