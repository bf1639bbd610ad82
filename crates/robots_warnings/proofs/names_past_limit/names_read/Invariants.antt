use Rattle.std.proofs.Common.{◌≡◌, ◌||◌, length, map}
use Rattle.std.specs.{BTreeSet.contains, List.list_any}
use Rattle.texting_robots.specs.Callers.{is_agent_named, label_by_value}
use Rattle.robots_warnings.specs.{File.lines_of, Internal.Names.Key, Internal.Names.key_cmp}
use Rattle.robots_warnings.proofs.names_past_limit.names_read.Given as goal

abbrev pub invariant-loop-rest : goal.invariant-loop-rest
invariant-loop-rest l = (key : Key)
    → (contains key_cmp l.names key
    || list_any (is_agent_named key.items) (lines_of (map label_by_value l.rest)))
    ≡ list_any (is_agent_named key.items) (lines_of (map label_by_value l.labels))

abbrev pub decreases-loop-rest : goal.decreases-loop-rest
decreases-loop-rest l = length l.rest
