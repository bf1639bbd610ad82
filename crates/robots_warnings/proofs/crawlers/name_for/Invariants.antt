use Rattle.std.proofs.Common.{◌≡◌, drop, map}
use Rattle.robots_warnings.specs.{Crawlers.name_for, Internal.row_value}
use Rattle.robots_warnings.proofs.crawlers.name_for.Given as goal

abbrev pub invariant-loop-row : goal.invariant-loop-row
invariant-loop-row l =
    name_for l.value (map row_value (drop l.row-index l.rows)) ≡ name_for l.value (map row_value l.rows)
