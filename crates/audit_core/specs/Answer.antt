-- What a run answers, and how its report is written. `old` and `new` are what a writer holds, or `None`
-- if the specification can't observe it: then `Appends` and `Keeps` claim nothing.
use Rattle.std.specs.Prelude.{◌≡◌, ℕ, true, false, List, [], Option, Result, Ok, Err, IfErr, IfOk}
use Rattle.std.specs.Prelude.{string_bytes}
use Rattle.std.specs.Io.KnownBytes.{Appends, Keeps}
use Rattle.safe_output.specs.{Streams.AppendsBeginning, declared.streams.WriteError.WriteError}
use Rattle.safe_output.specs.{Text.IsReport}
use Rattle.audit_core.specs.declared.answer.{Answer.Answer, Outcome.Outcome}
use Rattle.audit_core.specs.{declared.error.Error.Error, Error.error_of_write}

-- a report with exit status 0 and nothing on standard error
pub record IsText (answer : Answer) : Type 0 where
  pub report : IsReport answer.report.items
  pub accepted : answer.outcome.is_rejected ≡ false
  pub passed : answer.outcome.has_passed ≡ true
  pub unwarned : answer.outcome.is_warned ≡ false
  pub quiet : string_bytes answer.outcome.warnings ≡ []

-- the report is written, or, if writing fails, a prefix of it
pub record WritesReport (answer : Answer) (old new : Option (List ℕ)) (result : Result Outcome Error)
    : Type 0 where
  pub ok : IfOk result (λ outcome. (outcome ≡ answer.outcome) × Appends old new answer.report.items)
  pub error : IfErr result (λ error. (cause : WriteError) × (error ≡ error_of_write cause))
  pub beginning : AppendsBeginning old new answer.report.items

-- if there is no answer, nothing is written
abbrev pub Writes : Result Answer Error → (old new : Option (List ℕ)) → Result Outcome Error → Type 0
Writes (Ok answer) old new result = WritesReport answer old new result
Writes (Err error) old new result = (result ≡ Err error) × Keeps old new
