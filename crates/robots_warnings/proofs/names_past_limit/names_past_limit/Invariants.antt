use Rattle.std.proofs.Common.{◌≡◌, All, drop, map}
use Rattle.std.specs.Iterator.Adapters.{enumerate_count, enumerate_source}
use Rattle.texting_robots.specs.Callers.{file_lines, label_by_value}
use Rattle.robots_warnings.specs.{Crawlers.IsPastLimit, File.lines_of, Internal.Names.HasNames}
use Rattle.robots_warnings.proofs.names_past_limit.names_past_limit.Given as goal

abbrev pub invariant-loop-index : goal.invariant-loop-index
invariant-loop-index l =
    let read = lines_of (map label_by_value l.labels) in
    record {
      left : drop (enumerate_count l.index-iterator) (file_lines l.file) ≡ enumerate_source l.index-iterator;
      has : HasNames l.names read;
      are : All (IsPastLimit read l.file) l.found.items;
    }
