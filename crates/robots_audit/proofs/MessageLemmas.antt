-- What is answered, and that it is safe.
use Rattle.std.specs.Prelude.{IfOk}
use Rattle.std.proofs.Common.{◌≡◌, ◌+◌, ◌<◌, ◌||◌, ℕ, Bool, true, List, [], Result, Some, drop, inl, inr}
use Rattle.std.proofs.Common.{length, refl, slice_index_or, string_bytes, subst, sym}
use Rattle.std.proofs.lemmas.{List.drop_more, Result.IfOk-weaker}
use Rattle.safe_output.specs.declared.level.Level.{Level}
use Rattle.safe_output.specs.{Sanitize.IsPrintable, Text.IsShownReport, Text.reaches}
use Rattle.robots_warnings.specs.{Table.level_of, Message.WarningValue}
use Rattle.robots_audit.specs.Answer.{Answers, IsAudited, IsCompared, IsExpected, IsListed, IsReportIn}
use Rattle.robots_audit.specs.Answer.{IsSafe, IsSafeAnswer, is_warned}
use Rattle.safe_output.proofs.ReportLemmas.{report_printable, shown_colored, shown_nil}
use Rattle.audit_core.specs.{Answer.IsText, Request.RequestValue}
use Rattle.audit_core.specs.declared.answer.Answer.{Answer}
use Rattle.audit_core.specs.declared.error.Error.{Error}
use Rattle.audit_core.specs.declared.request.Format.{Format}
use Rattle.audit_core.specs.declared.request.Format.TheVariants.{Github, Html, Text}
use Rattle.audit_reports.proofs.GithubLemmas.{github_printable}

pub warned_next : (least : Level) (warnings : List WarningValue) (at : ℕ) (warning : WarningValue)
    → at < length warnings → is_warned (Some least) (drop at warnings)
    ≡ (reaches (level_of (slice_index_or warnings at warning).cause) least
    || is_warned (Some least) (drop (at + 1) warnings))
warned_next least warnings at warning below = rw (drop_more warnings at warning below) refl

-- ---- An answer of the library is one of the program.

pub text_answers : (result : Result Answer Error) → IfOk result IsText → IfOk result Answers
text_answers result is = IfOk-weaker result IsText Answers (λ answer is. inl is) is

pub audit_answers : (requested : RequestValue) (file : List ℕ) (result : Result Answer Error)
    → IfOk result (IsAudited requested file) → IfOk result Answers
audit_answers requested file result is =
    IfOk-weaker result _ Answers (λ answer is. inr (inl (requested, file, is))) is

pub comparison_answers : (only_verdicts : Bool) (requested : RequestValue) (older newer : List ℕ)
    (result : Result Answer Error) → IfOk result (IsCompared only_verdicts requested older newer)
    → IfOk result Answers
comparison_answers only_verdicts requested older newer result is =
    IfOk-weaker result _ Answers
    (λ answer is. inr (inr (inl (only_verdicts, requested, older, newer, is)))) is

pub expectations_answer : (format : Format) (text file : List ℕ) (result : Result Answer Error)
    → IfOk result (IsExpected format text file) → IfOk result Answers
expectations_answer format text file result is =
    IfOk-weaker result _ Answers (λ answer is. inr (inr (inr (format, text, file, is)))) is

-- ---- It is safe.

silent : (answer : Answer) → string_bytes answer.outcome.warnings ≡ []
    → IsShownReport true (string_bytes answer.outcome.warnings)
silent answer is = subst (IsShownReport true) (sym is) (shown_nil true)

pub text_safe : (answer : Answer) → IsText answer → IsSafeAnswer answer
text_safe answer is = record { report = (Text, is.report); warnings = silent answer is.quiet }

listed_safe : (format : Format) (is_rejected has_passed : Bool) (answer : Answer)
    → IsListed format is_rejected has_passed answer → IsSafeAnswer answer
listed_safe format is_rejected has_passed answer is = record {
  report = (format, is.report);
  warnings = silent answer is.silent;
}

pub answer_safe : (answer : Answer) → Answers answer → IsSafeAnswer answer
answer_safe answer (inl is) = text_safe answer is
answer_safe answer (inr (inl (requested, file, is))) = record {
  report = (requested.format, is.report);
  warnings = shown_colored requested.has_colors _ is.outcome.warnings;
}
answer_safe answer (inr (inr (inl (only_verdicts, requested, older, newer, is)))) =
    listed_safe _ _ _ answer is.listed
answer_safe answer (inr (inr (inr (format, text, file, is)))) = listed_safe _ _ _ answer is.listed

pub answers_safe : (result : Result Answer Error) → IfOk result Answers → IfOk result IsSafeAnswer
answers_safe result is = IfOk-weaker result Answers IsSafeAnswer answer_safe is

printable : (format : Format) (text : List ℕ) → IsReportIn format text → IsPrintable text
printable Html text is = is.1.printable
printable Github text is = subst IsPrintable (sym is.text_is) (github_printable is.file is.found)
printable format text is = report_printable text is

pub safe_printable : (text : List ℕ) → IsSafe text → IsPrintable text
safe_printable text (format, is) = printable format text is
