use Rattle.std.proofs.Common.{◌≡◌, ◌-◌, drop, length, map}
use Rattle.std.specs.Str.{str_to_ascii_lowercase}
use Rattle.texting_robots.specs.Internal.Site.{first_named, own_at, own_from, tag_at}
use Rattle.texting_robots.proofs.site.own.next_line.Given as goal

abbrev pub invariant-loop-line : goal.invariant-loop-line
invariant-loop-line l =
    let name = str_to_ascii_lowercase l.name in
    let tags = map (tag_at l.text) l.lines in
    record {
      left : own_from name l.group (drop l.at tags) (drop l.name_index l.names) tags
          ≡ own_at name l.fn.start l.names tags;
      first : first_named name (drop l.name_index l.names) ≡ 0;
    }

abbrev pub decreases-loop-line : goal.decreases-loop-line
decreases-loop-line l = length l.names - l.name_index
