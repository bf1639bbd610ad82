use Rattle.std.proofs.Common.{length, map}
use Rattle.robots_verdict.proofs.InputLemmas.{GoOn}
use Rattle.robots_verdict.proofs.header.split.Given as goal

abbrev pub invariant-loop-url : goal.invariant-loop-url
invariant-loop-url l = GoOn l.initial.rest (map (λ url. url.now) l.urls.items) l.rest

abbrev pub decreases-loop-url : goal.decreases-loop-url
decreases-loop-url l = length l.rest
