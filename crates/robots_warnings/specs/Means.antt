-- What warnings state. Where `--explain` prints a sentence about those that are given as proved, a warning is
-- so; of one about style, nothing is stated.
use Rattle.std.specs.Prelude.{◌≡◌, ℕ, ◌⊎◌, Bool, false, true, IsTrue, not, List, Contains}
use Rattle.std.specs.Prelude.{Any, MatchOption, Option, Some}
use Rattle.std.specs.Str.{is_utf8}
use Rattle.texting_robots.specs.Callers.{Allow, Disallow, LineValue, Label}
use Rattle.robots_warnings.specs.{declared.table.Cause.Cause, declared.warning.Detail.Detail}
use Rattle.robots_warnings.specs.declared.warning.Detail.TheVariants.{Line, Rules}
use Rattle.robots_warnings.specs.declared.table.Cause.TheVariants as cause
use Rattle.robots_warnings.specs.Closed.{IsReplacing, line_closing_site, star_count}
use Rattle.robots_warnings.specs.Contents.{comment_of, is_cut_to_root, tail_of}
use Rattle.robots_warnings.specs.Positions.{is_above_agents, later_delays}
use Rattle.robots_warnings.specs.Rules.{begins_oddly, has_dollar_inside}
use Rattle.robots_warnings.specs.{Conflicts.IsConflict, Conflicts.is_empty_at, Crawlers.IsPastLimit}
use Rattle.robots_warnings.specs.{Facts.is_too_large, File.lines_of, Message.WarningValue, Repeated.IsRepeat}

-- nothing is stated of a warning for this reason: it is about style, or `--explain` prints as proved what its
-- absence says, or what holds of such a rule by itself
abbrev pub is_style : Cause → Bool
is_style cause.HashLeavesRoot = false
is_style cause.RuleNotUtf8 = false
is_style cause.EqualsInRule = false
is_style cause.MissingSlash = false
is_style cause.UrlAsRule = false
is_style cause.RegexWithoutSlash = false
is_style cause.DollarNotAtEnd = false
is_style cause.RuleBeforeUserAgent = false
is_style cause.GroupPastSizeLimit = false
is_style cause.AllowedAndDisallowed = false
is_style cause.RepeatedDelay = false
is_style cause.RepeatedDelayPastLimit = false
is_style cause.GroupWithoutStarRules = false
is_style cause.RepeatedRule = false
is_style cause.RepeatedPastLimit = false
is_style cause.ClosedSite = false
is_style cause.ClosedSiteToOthers = false
is_style cause.NeverDecides = false
is_style cause.MatchesNothing = false
is_style cause.AllowedAnyway = false
is_style cause.NotNeeded = false
is_style other = true

-- the line is a rule with such a value
abbrev pub is_rule_that : (List ℕ → Bool) → LineValue → Bool
is_rule_that test (Allow value) = test value
is_rule_that test (Disallow value) = test value
is_rule_that test line = false

-- what a warning for this reason says of its line, if it is about one line by itself
abbrev pub is_so_of : Cause → Label → Bool
is_so_of cause.HashLeavesRoot label =
    is_rule_that (λ value. is_cut_to_root value (tail_of label.body) (comment_of label.body)) label.line
is_so_of cause.RuleNotUtf8 label = is_rule_that (λ value. not (is_utf8 value)) label.line
is_so_of cause.EqualsInRule label = is_rule_that begins_oddly label.line
is_so_of cause.MissingSlash label = is_rule_that begins_oddly label.line
is_so_of cause.UrlAsRule label = is_rule_that begins_oddly label.line
is_so_of cause.RegexWithoutSlash label = is_rule_that begins_oddly label.line
is_so_of cause.DollarNotAtEnd label = is_rule_that has_dollar_inside label.line
is_so_of cause.RuleBeforeUserAgent label = is_above_agents label
is_so_of other label = false

-- the cause holds of the line that the warning is about
pub record IsOfLine (labels : List Label) (warning : WarningValue) : Type 0 where
  pub label : Label
  pub among : Contains labels label
  pub line : warning.line ≡ Some label.number
  pub so : IsTrue (is_so_of warning.cause label)

-- the line closes the site to the crawler with this name, which is one of these
abbrev pub Closes : (agents : List (List ℕ)) → List Label → ℕ → Option (List ℕ) → Type 0
Closes agents labels number about = MatchOption about ⊥
    (λ agent. Contains agents agent × (line_closing_site (lines_of labels) agent ≡ Some number))

-- what a warning says of more than its line, if it isn't about style
abbrev pub Says : (agents : List (List ℕ)) → (file : List ℕ) → List Label → Cause → (number : ℕ)
    → (about : Option (List ℕ)) → Option Detail → Type 0
Says agents file labels cause.GroupPastSizeLimit number about detail =
    IsPastLimit (lines_of labels) file number
Says agents file labels cause.AllowedAndDisallowed number about detail =
    (other : ℕ) × (detail ≡ Some (Line other))
    × Any (λ agent. IsConflict (is_empty_at labels) agent (lines_of labels) number other) agents
Says agents file labels cause.RepeatedDelay number about detail =
    Contains (later_delays labels) number × (is_too_large file ≡ false)
Says agents file labels cause.RepeatedDelayPastLimit number about detail =
    Contains (later_delays labels) number
Says agents file labels cause.GroupWithoutStarRules number about detail =
    IsReplacing agents (lines_of labels) (lines_of labels) number
    × (detail ≡ Some (Rules (star_count (lines_of labels))))
Says agents file labels cause.RepeatedRule number about detail =
    IsRepeat (lines_of labels) number × (is_too_large file ≡ false)
Says agents file labels cause.RepeatedPastLimit number about detail =
    IsRepeat (lines_of labels) number
Says agents file labels cause.ClosedSite number about detail =
    Closes agents labels number about
Says agents file labels cause.ClosedSiteToOthers number about detail =
    Closes agents labels number about
Says agents file labels other number about detail = ⊥

-- a warning about style, or what it says is so
abbrev pub Means : (agents : List (List ℕ)) → (file : List ℕ) → List Label → WarningValue → Type 0
Means agents file labels warning =
    is_style warning.cause ≡ false → IsOfLine labels warning ⊎ MatchOption warning.line ⊥
    (λ number. Says agents file labels warning.cause number warning.about warning.detail)
