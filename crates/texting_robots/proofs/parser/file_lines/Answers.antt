use Rattle.std.proofs.Common.{rules}
use Rattle.texting_robots.proofs.LineLemmas.{lines_are, lines_range}
use Rattle.texting_robots.proofs.parser.file_lines.Goals as goal

pub returns-clause-lines : goal.returns-clause-lines
returns-clause-lines c = lines_are _ _ (search rules)

pub returns-clause-ranges : goal.returns-clause-ranges
returns-clause-ranges c = lines_range _ _ (search rules)
