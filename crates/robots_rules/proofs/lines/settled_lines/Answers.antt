use Rattle.std.proofs.Common.{[], refl}
use Rattle.robots_rules.proofs.SettledLemmas.{nothing_found}
use Rattle.robots_rules.proofs.lines.settled_lines.Goals as goal

pub returns-then-count-gt-MOST_RULES-clause-found : goal.returns-then-count-gt-MOST_RULES-clause-found
returns-then-count-gt-MOST_RULES-clause-found c = rw c.nothing.ensures (nothing_found c.args.site.now [] refl)

pub returns-clause-found : goal.returns-clause-found
returns-clause-found c = rw c.nothing-2.ensures (nothing_found c.args.site.now [] refl)
