use Rattle.std.proofs.Common.{◌≡◌}
use Rattle.std.specs.Iterator.Adapters.{enumerate_count, enumerate_source}
use Rattle.texting_robots.specs.Callers.{file_lines}
use Rattle.robots_rules.specs.{Blocks.keep_blocks_from, Blocks.no_rule, Search.is_found}
use Rattle.robots_rules.proofs.blocks.keep_blocks.Given as goal

abbrev pub invariant-loop-index : goal.invariant-loop-index
invariant-loop-index l =
    keep_blocks_from (is_found l.found) l.block (enumerate_count l.index-iterator)
    (enumerate_source l.index-iterator)
    ≡ keep_blocks_from (is_found l.found) no_rule 0 (file_lines l.text)
