use Rattle.std.proofs.Common.{◌≡◌}
use Rattle.std.specs.Iterator.Adapters.{enumerate_count, enumerate_source}
use Rattle.texting_robots.specs.Callers.{file_bodies}
use Rattle.robots_rules.specs.{Blocks.left_from, Search.is_found}
use Rattle.robots_rules.proofs.same.has_others.Given as goal

abbrev pub invariant-loop-index : goal.invariant-loop-index
invariant-loop-index l =
    l.others ≡ left_from (is_found l.found) (enumerate_count l.index-iterator)
    (enumerate_source l.index-iterator)
    → file_bodies l.left ≡ left_from (is_found l.found) 0 (file_bodies l.text)
