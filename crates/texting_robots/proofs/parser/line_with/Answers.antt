use Rattle.std.proofs.Common.{rules}
use Rattle.texting_robots.proofs.parser.line_with.Goals as goal

pub returns-in-empty : goal.returns-in-empty
returns-in-empty c = search rules
