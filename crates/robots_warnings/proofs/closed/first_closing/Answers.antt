use Rattle.std.proofs.Common.{rules, sym}
use Rattle.std.specs.HashSet.{contains_text}
use Rattle.robots_warnings.proofs.ClosedLemmas.{none_closing}
use Rattle.robots_warnings.proofs.closed.first_closing.Goals as goal

pub returns-then-not-has_closing : goal.returns-then-not-has_closing
returns-then-not-has_closing c =
    sym (none_closing (contains_text c.args.exempt.now) c.args.rules.now (search rules))
