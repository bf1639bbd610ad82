use Rattle.texting_robots.proofs.StatementLemmas.{one_statement}
use Rattle.texting_robots.proofs.laws.one_statement_fits.Goals as goal

pub returns : goal.returns
returns c = one_statement
