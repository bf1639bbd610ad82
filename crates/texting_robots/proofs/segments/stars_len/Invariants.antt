use Rattle.std.proofs.Common.{◌≡◌, ◌≤◌, ◌+◌, ◌-◌, ◌==◌, length}
use Rattle.std.specs.List.{prefix_len}
use Rattle.texting_robots.specs.Pattern.{star}
use Rattle.texting_robots.proofs.segments.stars_len.Given as goal

abbrev pub invariant-loop-rest : goal.invariant-loop-rest
invariant-loop-rest l = record {
  within : length l.rest ≤ length l.pattern;
  same : prefix_len (λ b. b == star) l.pattern
      ≡ length l.pattern - length l.rest + prefix_len (λ b. b == star) l.rest;
}

abbrev pub decreases-loop-rest : goal.decreases-loop-rest
decreases-loop-rest l = length l.rest
