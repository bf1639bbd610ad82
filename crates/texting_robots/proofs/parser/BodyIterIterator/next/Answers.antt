use Rattle.std.proofs.{Common.arith, lemmas.List.nil_from_length}
use Rattle.texting_robots.proofs.CutFromFront.{bodies_nil}
use Rattle.texting_robots.proofs.parser.BodyIterIterator.next.Goals as goal

pub returns-then-is_empty-clause-steps : goal.returns-then-is_empty-clause-steps
returns-then-is_empty-clause-steps c = grind (arith, bodies_nil, nil_from_length)

pub returns-clause-steps : goal.returns-clause-steps
returns-clause-steps c = grind arith

pub returns-clause-goes : goal.returns-clause-goes
returns-clause-goes c = grind (arith, returns-clause-steps)
