use Rattle.std.proofs.Common.{◌≤◌, length, map}
use Rattle.texting_robots.specs.Internal.Site.{AreLinked, named_of}
use Rattle.texting_robots.proofs.site.names.link.Given as goal

abbrev pub invariant-loop-position : goal.invariant-loop-position
invariant-loop-position l = record {
  within : l.position ≤ length l.lines;
  linked : AreLinked l.position (map named_of l.lines) l.heads l.nexts;
}

abbrev pub decreases-loop-position : goal.decreases-loop-position
decreases-loop-position l = l.position
