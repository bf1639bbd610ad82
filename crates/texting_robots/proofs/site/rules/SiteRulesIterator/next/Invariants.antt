use Rattle.std.{proofs.Common.◌≡◌, proofs.Common.length, specs.List.filter_map}
use Rattle.texting_robots.specs.Internal.Site.{rule_of}
use Rattle.texting_robots.proofs.site.rules.SiteRulesIterator.next.Given as goal

abbrev pub invariant-loop-line : goal.invariant-loop-line
invariant-loop-line l = filter_map rule_of l.self-inside.lines ≡ l.fn.self

abbrev pub decreases-loop-line : goal.decreases-loop-line
decreases-loop-line l = length l.self-inside.lines
