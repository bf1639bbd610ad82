use Rattle.std.proofs.Common.{◌≡◌, ◌++◌, map}
use Rattle.texting_robots.specs.Line.{by_value}
use Rattle.texting_robots.proofs.parser.collected.Given as goal

abbrev pub invariant-loop-line : goal.invariant-loop-line
invariant-loop-line l = map by_value l.all.items ++ l.line-iterator ≡ l.fn.lines
