use Rattle.std.proofs.Common.{rules, arith}
use Rattle.texting_robots.proofs.CountLemmas.{file_bodies_within}
use Rattle.texting_robots.proofs.parser.file_bodies.Goals as goal

pub returns-clause-value : goal.returns-clause-value
returns-clause-value c = search rules

pub returns-clause-count : goal.returns-clause-count
returns-clause-count c = grind (arith, file_bodies_within, returns-clause-value)
