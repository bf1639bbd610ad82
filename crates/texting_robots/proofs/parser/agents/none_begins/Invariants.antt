use Rattle.std.proofs.Common.{◌≡◌, true}
use Rattle.texting_robots.specs.Internal.Agents.{NoneBegins}
use Rattle.texting_robots.proofs.parser.agents.none_begins.Given as goal

abbrev pub invariant-loop-at : goal.invariant-loop-at
invariant-loop-at l = l.none ≡ true → NoneBegins l.text l.at
