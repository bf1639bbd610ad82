use Rattle.std.proofs.Common.{[], refl}
use Rattle.robots_rules.proofs.SettledLemmas.{nothing_found}
use Rattle.robots_rules.proofs.lines.needless_lines.Goals as goal

pub returns-in-Err-Overlong-clause-found : goal.returns-in-Err-Overlong-clause-found
returns-in-Err-Overlong-clause-found c = rw c.nothing.ensures (nothing_found c.args.site.now [] refl)
