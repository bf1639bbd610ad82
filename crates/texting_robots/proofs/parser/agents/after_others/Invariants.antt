use Rattle.std.proofs.Common.{◌≡◌, ℕ, ◌<◌, ◌≤◌, List, length}
use Rattle.texting_robots.specs.Internal.Agents.{is_named_later}
use Rattle.texting_robots.proofs.parser.agents.after_others.Given as goal

abbrev pub invariant-loop-rest : goal.invariant-loop-rest
invariant-loop-rest l = record {
  some : 0 < length l.rest;
  within : length l.rest ≤ length l.text;
  same : (name : List ℕ)
      → is_named_later name l.nul_ends l.rest ≡ is_named_later name l.nul_ends l.text;
}

abbrev pub decreases-loop-rest : goal.decreases-loop-rest
decreases-loop-rest l = length l.rest
