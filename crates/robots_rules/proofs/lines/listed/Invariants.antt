use Rattle.std.proofs.Common.{◌≡◌, map}
use Rattle.std.specs.Map.Iter.{deref_pair}
use Rattle.robots_rules.specs.Search.{rule_at}
use Rattle.robots_rules.proofs.lines.listed.Given as goal

abbrev pub invariant-loop-line : goal.invariant-loop-line
invariant-loop-line l = l.list.items ≡ map rule_at (map deref_pair l.yielded)
