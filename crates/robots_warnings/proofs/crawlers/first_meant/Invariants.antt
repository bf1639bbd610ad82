use Rattle.std.proofs.Common.{◌≡◌, drop, map}
use Rattle.std.specs.List.{position_from}
use Rattle.robots_warnings.specs.{Crawlers.is_meant, Internal.row_value}
use Rattle.robots_warnings.proofs.crawlers.first_meant.Given as goal

abbrev pub invariant-loop-number : goal.invariant-loop-number
invariant-loop-number l =
    let is = is_meant l.value l.other in
    position_from is l.number (map row_value (drop l.number l.rows))
    ≡ position_from is 0 (map row_value l.rows)
