use Rattle.robots_audit.proofs.MessageLemmas.{answer_safe, safe_printable}
use Rattle.robots_audit.proofs.theorems.no_terminal_is_steered.Goals as goal

pub returns : goal.returns
returns c = record { safe = answer_safe; printable = safe_printable }
