use Rattle.std.proofs.Common.{◌↔◌, length}
use Rattle.texting_robots.specs.{Internal.Segments.from_star, Pattern.MatchesStars}
use Rattle.texting_robots.proofs.minregex.MinRegex.match_stars.Given as goal

abbrev pub invariant-loop-left : goal.invariant-loop-left
invariant-loop-left l = MatchesStars l.fn.pattern l.text ↔ MatchesStars (from_star l.left) l.rest

abbrev pub decreases-loop-left : goal.decreases-loop-left
decreases-loop-left l = length (from_star l.left)
