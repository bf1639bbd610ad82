-- Expectations as the code finds and handles them.
use Rattle.std.specs.Prelude.{◌≡◌, ℕ, true, false, List, map, Bool, Option, Some, None, ◌||◌}
use Rattle.std.specs.Prelude.{if◌then◌else◌, not}
use Rattle.texting_robots.specs.Callers.{RobotValue, file_lines, lines_read}
use Rattle.texting_robots.specs.declared.decision.Decision.{Decision}
use Rattle.audit_core.specs.{Internal.IsCrawlerIn, Internal.IsReading, Standard.text_read}
use Rattle.audit_core.specs.declared.audit.Reading.TheVariants.{Accepted}
use Rattle.audit_expect.specs.{declared.expect.Expectation.Expectation, declared.checks.Checked.Checked}
use Rattle.audit_expect.specs.Expect.{ExpectationValue}
use Rattle.audit_expect.specs.Expectations.{HoldsFor}
use Rattle.audit_expect.specs.declared.checks.{Judgment.Judgment, OnPaths.OnPaths, Readers.Readers}
use Rattle.audit_expect.specs.declared.checks.Judgment.TheVariants.{Decided, Everywhere}
use Rattle.audit_expect.specs.declared.checks.OnPaths.TheVariants.{Hold}

abbrev pub expectation_value : Expectation → ExpectationValue
expectation_value expectation = record {
  allowed = expectation.allowed;
  agent = expectation.agent.now;
  url = expectation.url.now;
  is_pattern = expectation.is_pattern;
}

-- what lines with these expectations expect
abbrev pub expected_by : List Expectation → List (Option ExpectationValue)
expected_by found = map Some (map expectation_value found)

abbrev pub holds : OnPaths → Bool
holds Hold = true
holds found = false

abbrev pub is_unexpected : Bool → Decision → Bool
is_unexpected allowed decision = if allowed then not decision.allowed else decision.allowed

abbrev pub fails_at : Bool → Judgment → Bool
fails_at allowed (Decided here standard) = is_unexpected allowed here || is_unexpected allowed standard
fails_at allowed (Everywhere found) = not (holds found)
fails_at allowed judgment = true

-- without a judgment, everything is allowed
abbrev pub fails_by : Bool → Option Judgment → Bool
fails_by allowed (Some judgment) = fails_at allowed judgment
fails_by allowed None = not allowed

abbrev pub fails : Checked → Bool
fails checked = fails_by checked.expectation.allowed checked.judgment

-- what the file has for the crawler in both readings
pub record IsInBoth (file : List ℕ) (readers : Readers) : Type 0 where
  pub here : IsCrawlerIn (lines_read file) readers.here
  pub agent_is : readers.standard.agent.now ≡ readers.here.agent.now
  pub in_text : IsCrawlerIn (file_lines (text_read file)) readers.standard

-- the robots of the crawler in both readings
pub record AreRobots (file agent : List ℕ) (robot standard : RobotValue) : Type 0 where
  pub here : IsReading agent (lines_read file) (Accepted robot)
  pub in_text : IsReading agent (file_lines (text_read file)) (Accepted standard)

-- by this judgment the expectation fails, or it holds
abbrev pub IsJudgmentOn : List ℕ → List ℕ → ExpectationValue → Judgment → Type 0
IsJudgmentOn file agent one judgment = fails_at one.allowed judgment ≡ false → HoldsFor file agent one
