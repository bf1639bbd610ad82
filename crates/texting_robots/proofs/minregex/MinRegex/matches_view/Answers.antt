use Rattle.std.proofs.Common.{rules}
use Rattle.texting_robots.proofs.minregex.MinRegex.matches_view.Goals as goal

pub returns-clause-looks : goal.returns-clause-looks
returns-clause-looks c = search rules
