use Rattle.robots_rules.proofs.lines.settled_for.Goals as goal

pub returns-clause-settled : goal.returns-clause-settled
returns-clause-settled c = record {
  accepted = c.in_ok-accept.ensures;
  same = rw c.in_ok-own.ensures at c.in_ok-rules.ensures;
}
