-- How lines are read for a crawler, and how warnings are added.
pub mod Agents
pub mod Views
use Rattle.std.specs.Prelude.{◌≡◌, ◌++◌, ◌||◌, ℕ, All, Bool, true, Contains, List, Option, Some, None}
use Rattle.std.specs.Prelude.{flat_map}
use Rattle.texting_robots.specs.Callers.{AnswerAlike, IsFirstOverlong, IsRejected, Label, LineValue}
use Rattle.texting_robots.specs.Callers.{PlacedRule, lines_read, placed_rules}
use Rattle.robots_warnings.specs.Warnings.{HasClosed, HasOverruling, url_warnings}
use Rattle.robots_warnings.specs.{Conflicts.is_empty_at, Means.is_style, Message.WarningValue}
use Rattle.audit_core.specs.{Audit.IsSo, Together.is_needless, Together.needless_line}
use Rattle.audit_core.specs.declared.audit.{Crawler.Crawler, Reading.Reading}
use Rattle.audit_core.specs.declared.audit.Reading.TheVariants.{Accepted, Rejected}

-- a robot with the crawler's rules in these lines, or the line of the crawler's first overlong rule
abbrev pub IsReading : (agent : List ℕ) → List LineValue → Reading → Type 0
IsReading agent lines (Accepted robot) =
    (¬ IsRejected agent lines) × AnswerAlike robot.rules (placed_rules agent lines)
IsReading agent lines (Rejected line) = IsFirstOverlong (placed_rules agent lines) line

abbrev pub rejected_line : Reading → Option ℕ
rejected_line (Accepted robot) = None
rejected_line (Rejected line) = Some line

abbrev pub rules_by : Reading → Option (List PlacedRule)
rules_by (Accepted robot) = Some robot.rules
rules_by (Rejected line) = None

-- about a needless rule, or about style
abbrev pub is_plain : WarningValue → Bool
is_plain warning = is_style warning.cause || is_needless warning.cause

-- the crawler's rules in these lines, and how they are read for it
pub record IsCrawlerIn (lines : List LineValue) (crawler : Crawler) : Type 0 where
  pub rules_are : crawler.rules.items ≡ placed_rules crawler.agent.now lines
  pub reading_is : IsReading crawler.agent.now lines crawler.reading

-- the crawler in these lines, which has the same rules there if no other one is given
abbrev pub IsOtherReading : List LineValue → Crawler → Option Crawler → Type 0
IsOtherReading lines crawler None = placed_rules crawler.agent.now lines ≡ crawler.rules.items
IsOtherReading lines crawler (Some other) =
    (other.agent.now ≡ crawler.agent.now) × IsCrawlerIn lines other

-- plain warnings are appended, and those of needless rules are in these lines
pub record AddsNeedless (lines : List ℕ) (old new : List WarningValue) : Type 0 where
  pub added : List WarningValue
  pub appended : new ≡ old ++ added
  pub in_lines : flat_map needless_line added ≡ lines
  pub plain : All (λ warning. is_plain warning ≡ true) added

-- all warnings about a file and a request, with those of needless rules in these lines
pub record AreFoundFor (agents urls : List (List ℕ)) (file : List ℕ) (labels : List Label) (lines : List ℕ)
    (found : List WarningValue) : Type 0 where
  pub are : All (IsSo agents file labels) found
  pub in_lines : flat_map needless_line found ≡ lines
  pub told : All (Contains found) (flat_map url_warnings urls)
  pub closed : HasClosed agents (lines_read file) found
  pub overruling : HasOverruling (is_empty_at labels) agents (lines_read file) found
