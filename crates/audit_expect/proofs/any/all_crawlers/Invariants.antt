use Rattle.std.proofs.Common.{◌≡◌, ◌++◌, flat_map, map, take}
use Rattle.texting_robots.specs.Callers.{file_lines, lines_read}
use Rattle.audit_core.specs.Audit.{crawlers_in}
use Rattle.audit_expect.specs.Expectations.{elsewhere}
use Rattle.audit_expect.proofs.any.all_crawlers.Given as goal

abbrev pub invariant-loop-row : goal.invariant-loop-row
invariant-loop-row l =
    map (λ name. name.now) l.names.items
    ≡ crawlers_in (lines_read l.read.bytes.now)
    ++ flat_map (elsewhere (file_lines l.read.site)) (map (λ row. row.0.now) (take l.row-index l.row-items))
