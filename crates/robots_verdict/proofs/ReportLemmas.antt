-- How a report is built, and that an input has at most one.
use Rattle.std.proofs.Common.{arith, ◌≡◌, ◌≢◌, ℕ, Bool, true, false, List, [], ◌∷◌, ◌++◌, Option, Some, None}
use Rattle.std.proofs.Common.{IfSome, MatchBool, Result, Ok, Err, ap, inl, inr, map, refl, subst, sym, ◌∙◌}
use Rattle.std.proofs.lemmas.Bool.{cases_Bool, false≢true}
use Rattle.texting_robots.specs.Callers.{IsRobotOf, RobotValue, delay_for, lines_read, placed_rules}
use Rattle.texting_robots.specs.Callers.{rules_for, sitemaps_in}
use Rattle.texting_robots.proofs.Shared.{Either, any_overlong_decides, delay_is_computed}
use Rattle.texting_robots.proofs.Shared.{sitemaps_are_computed, answer_as_placed, lines_are_read}
use Rattle.texting_robots.proofs.Shared.{read_rejected, rejection_is_computed}
use Rattle.robots_verdict.specs.{declared.fault.Fault.Fault, Input.Input, Input.are_utf8, Input.split}
use Rattle.robots_verdict.specs.declared.fault.Fault.TheVariants.{HeaderNotUtf8, InvalidRule, NoEmptyLine}
use Rattle.robots_verdict.specs.Report.{AddsVerdicts, IsRejected, IsReport, IsReportOn, IsReportText}
use Rattle.robots_verdict.specs.Report.{IsReportOnUtf8, delay_line, sitemap_line}
use Rattle.safe_output.specs.Lines.{ended}
use Rattle.safe_output.proofs.SanitizeLemmas.{ended-append, lines_added}
use Rattle.robots_verdict.proofs.VerdictsLemmas.{lines_like, lines_once, some_lines}

pub text_made : (input : Input) (one two text : List ℕ) (robot : RobotValue)
    → IsRobotOf input.agent (lines_read input.file) robot → one ≡ ended (delay_line robot.delay ∷ [])
    → two ≡ one ++ ended (map sitemap_line robot.sitemaps)
    → AddsVerdicts robot.rules input.urls two text → IsReportText input text
text_made input one two text robot is first second last =
    let lines = lines_read input.file in
    let delay : List (List ℕ) = delay_line (delay_for input.agent lines) ∷ [] in
    let sitemaps : List (List ℕ) = map sitemap_line (sitemaps_in lines) in
    let delayed = (delay_is_computed input.agent lines robot.delay).0 is.delay in
    let listed = (sitemaps_are_computed lines robot.sitemaps).0 is.sitemaps in
    record {
      verdict_lines = last.lines;
      verdicts = lines_like robot.rules (placed_rules input.agent lines)
          (answer_as_placed input.agent lines robot.rules is.rules) input.urls last.lines last.verdicts;
      whole = lines_added one two text sitemaps last.lines (rw listed at second) last.whole
          ∙ ap (λ t. t ++ ended (sitemaps ++ last.lines)) (rw delayed at first)
          ∙ sym (ended-append delay (sitemaps ++ last.lines));
    }

-- ---- An input has exactly one report.

text_once : (input : Input) (text other : List ℕ) → IsReportText input text → IsReportText input other
    → text ≡ other
text_once input text other one two = grind (arith, lines_once)

match_once : {X : Type 0} (b : Bool) (P Q : X → Type 0) → ((x y : X) → P x → P y → x ≡ y)
    → ((x y : X) → Q x → Q y → x ≡ y) → (x y : X) → MatchBool b (P x) (Q x) → MatchBool b (P y) (Q y) → x ≡ y
match_once true P Q p q x y one two = p x y one two
match_once false P Q p q x y one two = q x y one two

read_once : (input : Input) (report other : Result (List ℕ) Fault) → IsReportOnUtf8 input report
    → IsReportOnUtf8 input other → report ≡ other
read_once input report other (inl one) (inl two) = cc
read_once input report other (inl one) (inr two) = absurd (two.0 one.0)
read_once input report other (inr one) (inl two) = absurd (one.0 two.0)
read_once input report other (inr (_, text, made, is)) (inr (_, again, too, was)) =
    cc (text_once input text again made too)

report_once : (parts : Option Input) (report other : Result (List ℕ) Fault) → IsReportOn parts report
    → IsReportOn parts other → report ≡ other
report_once None report other one two = one ∙ sym two
report_once (Some input) report other one two =
    match_once (are_utf8 input) (IsReportOnUtf8 input) (λ (report : Result
    (List ℕ) Fault). report ≡ Err HeaderNotUtf8)
    (read_once input) (λ x y p q. p ∙ sym q) report other one two

pub one_report : (input : List ℕ) (report other : Result (List ℕ) Fault) → IsReport input report
    → IsReport input other → report ≡ other
one_report input = report_once (split input)

rejected_or_not : (input : Input) → Either (IsRejected input)
rejected_or_not input =
    let lines = lines_read input.file in
    let is = rejection_is_computed input.agent lines in
    let decides = any_overlong_decides (rules_for input.agent lines) in
    elim (cases_Bool _) [
      | inl some ↦ inl (lines, lines_are_read input.file, is.1 (decides.0 some))
      | inr none ↦ inr (λ rejected. false≢true (cc (decides.1 (is.0
          (read_rejected input.agent input.file rejected)))))
    ]

text_of_report : (input : Input) → (text : List ℕ) × IsReportText input text
text_of_report input =
    let lines = lines_read input.file in
    let (verdict_lines, are) = some_lines (placed_rules input.agent lines) input.urls in (
      ended (delay_line (delay_for input.agent lines)
          ∷ (map sitemap_line (sitemaps_in lines) ++ verdict_lines)),
      grind arith,
    )

report_on : (parts : Option Input) → (report : Result (List ℕ) Fault) × IsReportOn parts report
report_on None = (Err NoEmptyLine, refl)
report_on (Some input) = elim (cases_Bool (are_utf8 input)) [
  | inr isnt ↦ (Err HeaderNotUtf8, rw isnt refl)
  | inl are ↦ elim (rejected_or_not input) [
    | inl rejected ↦ (Err InvalidRule, rw are (inl (rejected, refl)))
    | inr accepted ↦
        let (text, made) = text_of_report input in (Ok text, rw are (inr (accepted, text, made, refl)))
  ]
]

pub some_report : (input : List ℕ) → (report : Result (List ℕ) Fault) × IsReport input report
some_report input = report_on (split input)

-- ---- The report that the code makes, or its error.

of_input : (left : Option (List ℕ)) (P : List ℕ → Type 0) (items bytes : List ℕ)
    → IfSome left (λ input. items ≡ input) → bytes ≡ items → P bytes → IfSome left P
of_input None P items bytes read same is = tt
of_input (Some input) P items bytes read same is = subst P (same ∙ read) is

pub run_wrote : (left : Option (List ℕ)) (W : List ℕ → Type 0) (items bytes text written : List ℕ)
    → IfSome left (λ input. items ≡ input) → bytes ≡ items → IsReport bytes (Ok text) → written ≡ text
    → W written
    → IfSome left (λ input. (text : List ℕ) × IsReport input (Ok text) × W text)
run_wrote left W items bytes text written read same report whole wrote = grind arith
