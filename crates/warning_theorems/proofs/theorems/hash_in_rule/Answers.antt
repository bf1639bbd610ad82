use Rattle.std.proofs.{Common.rules, lemmas.Bool.and_parts}
use Rattle.audit_core.proofs.ReachLemmas.{whole_site_matches}
use Rattle.robots_warnings.proofs.ClosedLemmas.{whole_site_stays}
use Rattle.warning_theorems.proofs.theorems.hash_in_rule.Goals as goal

pub returns : goal.returns
returns c value tail comment path is = search (rules, and_parts, whole_site_stays, whole_site_matches)
