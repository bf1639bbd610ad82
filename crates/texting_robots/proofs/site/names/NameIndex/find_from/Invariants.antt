use Rattle.std.proofs.Common.{◌≡◌, ◌+◌, ◌-◌, drop, length}
use Rattle.std.specs.{List.position_or_len, Str.str_to_ascii_lowercase}
use Rattle.texting_robots.specs.Internal.Site.{bucket_of, first_named, is_in}
use Rattle.texting_robots.proofs.site.names.NameIndex.find_from.Given as goal

abbrev pub invariant-loop-position : goal.invariant-loop-position
invariant-loop-position l =
    let name = str_to_ascii_lowercase l.name in
    let count = length l.self in
    record {
      here : position_or_len (is_in count (bucket_of count name)) (drop l.position l.self) ≡ 0;
      rest : l.position + first_named name (drop l.position l.self)
          ≡ l.start + first_named name (drop l.start l.self);
    }

abbrev pub decreases-loop-position : goal.decreases-loop-position
decreases-loop-position l = length l.self - l.position
