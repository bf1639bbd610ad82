-- Errors, and the exit status.
use Rattle.std.specs.Prelude.{ℕ, not, Result, Ok, Err, if◌then◌else◌}
use Rattle.safe_output.specs.declared.streams.WriteError.{WriteError}
use Rattle.audit_core.specs.declared.answer.{Outcome.Outcome}
use Rattle.audit_core.specs.declared.error.Error.{Error, TheVariants.Closed, TheVariants.Write}
use Rattle.safe_output.specs.declared.streams.WriteError.TheVariants as write

-- 2 after an error, or if the file is rejected; 3 if there is a warning at the level of `--strict` or a more
-- serious one, since verdicts on a file with mistakes are in doubt; 1 if some URL is denied, an expectation
-- fails or something differs; else 0; but 141 if the reader of the output has closed it, as of other
-- programs, which the signal SIGPIPE ends
abbrev pub status_after : Result Outcome Error → ℕ
status_after (Ok outcome) =
    if outcome.is_rejected then 2
    else if outcome.is_warned then 3
    else if not outcome.has_passed then 1 else 0
status_after (Err Closed) = 141
status_after (Err error) = 2

abbrev pub error_of_write : WriteError → Error
error_of_write write.Closed = Closed
error_of_write write.Write = Write
