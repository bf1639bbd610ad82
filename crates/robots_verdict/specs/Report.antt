-- The report on an input, and its verdict lines.
use Rattle.std.specs.Prelude.{◌≡◌, ◌⊎◌, ℕ, Bool, true, false, List, [], ◌∷◌, ◌++◌, Option, Some, None, codes}
use Rattle.std.specs.Prelude.{decimal, MatchBool, Result, Ok, Err, map, take}
use Rattle.std.specs.{List.AllZip, Io.KnownBytes.Appends}
use Rattle.texting_robots.specs.Callers.{PlacedRule, prepared, IsFileRejected, delay_for, file_limit}
use Rattle.texting_robots.specs.Callers.{lines_read, placed_rules, sitemaps_in}
use Rattle.texting_robots.specs.{Decision.IsDecisionOn, declared.decision.Decision.Decision}
use Rattle.safe_output.specs.{Lines.ended, Streams.AppendsBeginning}
use Rattle.robots_verdict.specs.{Input.Input, Input.are_utf8, Input.split, declared.fault.Fault.Fault}
use Rattle.robots_verdict.specs.declared.fault.Fault.TheVariants.{HeaderNotUtf8, InvalidRule, NoEmptyLine}

abbrev pub verdict_word : Bool → List ℕ
verdict_word true = codes "allow "
verdict_word false = codes "deny "

-- `-` if no line decides
abbrev pub line_text : Option ℕ → List ℕ
line_text None = codes "-"
line_text (Some number) = decimal number

abbrev pub verdict_front : Bool → Option ℕ → List ℕ
verdict_front allowed number = verdict_word allowed ++ line_text number ++ codes " "

-- the line with the decision of the rules on the URL
pub record IsVerdictLine (rules : List PlacedRule) (url line : List ℕ) : Type 0 where
  pub decision : Decision
  pub decided : IsDecisionOn rules (prepared url) decision
  pub whole : line ≡ verdict_front decision.allowed decision.line ++ url

pub record AddsVerdict (rules : List PlacedRule) (url old new : List ℕ) : Type 0 where
  pub line : List ℕ
  pub verdict : IsVerdictLine rules url line
  pub whole : new ≡ old ++ ended (line ∷ [])

-- a line for each URL is appended, in order
pub record AddsVerdicts (rules : List PlacedRule) (urls : List (List ℕ)) (old new : List ℕ) : Type 0 where
  pub lines : List (List ℕ)
  pub verdicts : AllZip (IsVerdictLine rules) urls lines
  pub whole : new ≡ old ++ ended lines

abbrev pub delay_line : Option ℕ → List ℕ
delay_line None = codes "delay none"
delay_line (Some micros) = codes "delay " ++ decimal micros

abbrev pub sitemap_line : List ℕ → List ℕ
sitemap_line sitemap = codes "sitemap " ++ sitemap

-- a line with the crawler's delay, one for each sitemap of the file, and one with the verdict on each URL
pub record IsReportText (input : Input) (text : List ℕ) : Type 0 where
  pub verdict_lines : List (List ℕ)
  pub verdicts : AllZip (IsVerdictLine (placed_rules input.agent (lines_read input.file))) input.urls
      verdict_lines
  pub whole : text ≡ ended (delay_line (delay_for input.agent (lines_read input.file))
      ∷ (map sitemap_line (sitemaps_in (lines_read input.file)) ++ verdict_lines))

abbrev pub IsRejected : Input → Type 0
IsRejected input = IsFileRejected input.agent (take file_limit input.file)

-- the report on an input whose header is UTF-8, or its error
abbrev pub IsReportOnUtf8 : Input → Result (List ℕ) Fault → Type 0
IsReportOnUtf8 input report =
    (IsRejected input × (report ≡ Err InvalidRule))
    ⊎ ((¬ IsRejected input) × (text : List ℕ) × IsReportText input text × (report ≡ Ok text))

abbrev pub IsReportOn : Option Input → Result (List ℕ) Fault → Type 0
IsReportOn None report = report ≡ Err NoEmptyLine
IsReportOn (Some input) report =
    MatchBool (are_utf8 input) (IsReportOnUtf8 input report) (report ≡ Err HeaderNotUtf8)

-- the report on an input, or the error that the input causes
abbrev pub IsReport : List ℕ → Result (List ℕ) Fault → Type 0
IsReport input report = IsReportOn (split input) report

-- the writer contains its previous content and then the report on the input
abbrev pub AppendsReport : Option (List ℕ) → Option (List ℕ) → List ℕ → Type 0
AppendsReport old new input = (text : List ℕ) × IsReport input (Ok text) × Appends old new text

-- the writer contains its previous content and then a prefix of the report on the input
abbrev pub AppendsReportBeginning : Option (List ℕ) → Option (List ℕ) → List ℕ → Type 0
AppendsReportBeginning old new input = (text : List ℕ) × IsReport input (Ok text)
    × AppendsBeginning old new text
