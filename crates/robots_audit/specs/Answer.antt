-- What the program answers: to an audit of a file, a comparison of two, and a check of expectations.
use Rattle.std.specs.Prelude.{◌≡◌, ◌⊎◌, ℕ, Bool, false, List, [], None, Option, Some, ◌==◌, if◌then◌else◌}
use Rattle.std.specs.Prelude.{string_bytes, true}
use Rattle.std.specs.{List.list_any}
use Rattle.safe_output.specs.{Page.IsSomePage}
use Rattle.safe_output.specs.{declared.level.Level.Level}
use Rattle.safe_output.specs.Text.{IsReport, IsShownReport, reaches}
use Rattle.robots_warnings.specs.{Table.level_of, Message.WarningValue}
use Rattle.audit_core.specs.Audit.{AuditValue, IsAuditOf, all_allowed, rejects_some}
use Rattle.audit_core.specs.{Answer.IsText, Request.RequestValue, declared.answer.Answer.Answer}
use Rattle.audit_core.specs.{declared.answer.Outcome.Outcome, declared.findings.Finding.Finding}
use Rattle.audit_core.specs.declared.request.Format.{Format, TheVariants.Github, TheVariants.Html}
use Rattle.audit_compare.specs.Compare.{ComparisonValue, IsComparison, differs_nowhere, keeps_verdicts}
use Rattle.audit_compare.specs.Compare.{rejects_some as rejects_one}
use Rattle.audit_expect.specs.{Expectations.AreFailuresOf}
use Rattle.audit_reports.specs.{Github.github_text}

-- annotations of some findings in some file, each of which is a single command
pub record AreAnnotations (text : List ℕ) : Type 0 where
  pub file : List ℕ
  pub found : List Finding
  pub text_is : text ≡ github_text file found

-- a report in this format: a page, which steers no terminal, has no `##[`, and closes each of its elements;
-- annotations; or lines, none of which steers a terminal or is a command of a workflow. That it says what was
-- found isn't stated, here and below
abbrev pub IsReportIn : Format → List ℕ → Type 0
IsReportIn Html text = IsSomePage text
IsReportIn Github text = AreAnnotations text
IsReportIn format text = IsReport text

abbrev pub is_warned : Option Level → List WarningValue → Bool
is_warned None warnings = false
is_warned (Some least) warnings =
    list_any (λ (warning : WarningValue). reaches (level_of warning.cause) least) warnings

pub record IsOutcomeOf (requested : RequestValue) (audit : AuditValue) (outcome : Outcome) : Type 0 where
  pub rejected : outcome.is_rejected ≡ rejects_some audit.agents
  pub allowed : outcome.has_passed ≡ all_allowed audit.agents
  pub warned : outcome.is_warned ≡ is_warned requested.strict audit.warnings
  pub warnings : IsShownReport requested.has_colors (string_bytes outcome.warnings)

-- the answer to an audit of a file with these bytes: what decides the exit status is that of the audit
pub record IsAudited (requested : RequestValue) (file : List ℕ) (answer : Answer) : Type 0 where
  pub audit : AuditValue
  pub of : IsAuditOf requested file audit
  pub report : IsReportIn requested.format answer.report.items
  pub outcome : IsOutcomeOf requested audit answer.outcome

-- ---- a comparison, and expectations

-- the answer is such a report, and whether a file is rejected and all is well; there are no warnings
pub record IsListed (format : Format) (is_rejected has_passed : Bool) (answer : Answer) : Type 0 where
  pub report : IsReportIn format answer.report.items
  pub rejected : answer.outcome.is_rejected ≡ is_rejected
  pub passed : answer.outcome.has_passed ≡ has_passed
  pub unwarned : answer.outcome.is_warned ≡ false
  pub silent : string_bytes answer.outcome.warnings ≡ []

-- with `--only-verdicts`, all is well if for no crawler a verdict changes
abbrev pub has_passed : (only_verdicts : Bool) → ComparisonValue → Bool
has_passed only_verdicts comparison =
    if only_verdicts then keeps_verdicts comparison else differs_nowhere comparison

-- the answer to a comparison of two files with these bytes
pub record IsCompared (only_verdicts : Bool) (requested : RequestValue) (older newer : List ℕ)
    (answer : Answer) : Type 0 where
  pub comparison : ComparisonValue
  pub of : IsComparison requested.agents requested.urls older newer comparison
  pub listed : IsListed requested.format (rejects_one comparison) (has_passed only_verdicts comparison) answer

-- the answer to the expectations in a text, checked against a file; a rejected file is a failure
pub record IsExpected (format : Format) (text file : List ℕ) (answer : Answer) : Type 0 where
  pub failing : ℕ
  pub of : AreFailuresOf text file failing
  pub listed : IsListed format false (failing == 0) answer

-- ---- what the program answers

-- The answer is a text, such as the explanation of a warning, or that to an audit, a comparison or
-- expectations. The toolchain has no words for the content of a file or of standard input. So this states
-- that there are some bytes and a request for which it is the right one, but neither that these bytes were
-- read, nor that the arguments make this request.
abbrev pub Answers : Answer → Type 0
Answers answer =
    IsText answer
    ⊎ (((requested : RequestValue) × (file : List ℕ) × IsAudited requested file answer)
    ⊎ (((only_verdicts : Bool) × (requested : RequestValue) × (older newer : List ℕ)
    × IsCompared only_verdicts requested older newer answer)
    ⊎ ((format : Format) × (text file : List ℕ) × IsExpected format text file answer)))

-- ---- what no request and no file can change

abbrev pub IsSafe : List ℕ → Type 0
IsSafe text = (format : Format) × IsReportIn format text

pub record IsSafeAnswer (answer : Answer) : Type 0 where
  pub report : IsSafe answer.report.items
  pub warnings : IsShownReport true (string_bytes answer.outcome.warnings)
