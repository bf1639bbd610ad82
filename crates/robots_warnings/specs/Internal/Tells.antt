-- How lists of warnings grow, and what is known of a file for a request.
use Rattle.std.specs.Prelude.{◌≡◌, ℕ, All, Contains, List, None, Option, Some, map}
use Rattle.texting_robots.specs.Callers.{Label, label_by_value}
use Rattle.robots_warnings.specs.declared.table.Cause.{TheVariants.EmptyDisallow}
use Rattle.robots_warnings.specs.declared.warning.Detail.{TheVariants.Line}
use Rattle.robots_warnings.specs.{Conflicts.is_empty_at, Internal.Rules.AreOf}
use Rattle.robots_warnings.specs.declared.conflicts.RuleLines.{RuleLines}
use Rattle.std.specs.{BTreeMap.get, Ordering.nat_cmp}
use Rattle.robots_warnings.specs.{declared.known.Known.Known, declared.table.Cause.Cause}
use Rattle.robots_warnings.specs.{declared.warning.Detail.Detail, Message.WarningValue, Means.Means}
use Rattle.robots_warnings.specs.{Means.Says}
use Rattle.robots_warnings.specs.Closed.{IsReplacing, star_count}
use Rattle.robots_warnings.specs.{Crawlers.IsPastLimit, Facts.is_too_large, File.lines_of}
use Rattle.robots_warnings.specs.{Positions.later_delays, Repeated.IsRepeat}

-- the old warnings, and others, all of which are so
pub record Tells (IsSo : WarningValue → Type 0) (old new : List WarningValue) : Type 0 where
  pub kept : (warning : WarningValue) → Contains old warning → Contains new warning
  pub so : All IsSo old → All IsSo new

abbrev pub agents_in : Known → List (List ℕ)
agents_in known = map (λ agent. agent.now) known.agents.now

abbrev pub labels_in : Known → List Label
labels_in known = map label_by_value known.read.now.labels.items

-- a warning about style, or what it says of the file is so
abbrev pub IsSo : Known → WarningValue → Type 0
IsSo known = Means (agents_in known) known.read.now.bytes.now (labels_in known)

abbrev pub SaysSo : Known → Cause → (number : ℕ) → (about : Option (List ℕ)) → Option Detail → Type 0
SaysSo known = Says (agents_in known) known.read.now.bytes.now (labels_in known)

-- each of the numbers that were found
abbrev pub Each : (found : List ℕ) → (ℕ → Type 0) → Type 0
Each found Is = (number : ℕ) → Contains found number → Is number

pub record IsKnown (known : Known) : Type 0 where
  pub size_is : known.read.now.facts.is_too_large ≡ is_too_large known.read.now.bytes.now
  pub past_limit : Each known.past_limit.items
      (IsPastLimit (lines_of (labels_in known)) known.read.now.bytes.now)
  pub delays : known.delays.items ≡ later_delays (labels_in known)
  pub replacing : Each known.replacing.items
      (IsReplacing (agents_in known) (lines_of (labels_in known)) (lines_of (labels_in known)))
  pub star_count : known.star_count ≡ star_count (lines_of (labels_in known))
  pub repeated : Each known.repeated.items (IsRepeat (lines_of (labels_in known)))
  pub rules : AreOf (is_empty_at (labels_in known)) (agents_in known) (lines_of (labels_in known)) known.rules

-- the detail is the line of an Allow that contradicts the Disallow in this line
abbrev pub IsBeside : RuleLines → (number : ℕ) → Option Detail → Type 0
IsBeside lines number detail =
    (other : ℕ) × (detail ≡ Some (Line other)) × (get nat_cmp lines.conflicts number ≡ Some other)

-- an empty Disallow in the line with the first number overrules the Disallow in the other one
abbrev pub overruling_at : ℕ × ℕ → WarningValue
overruling_at entry =
    record { line = Some entry.0; cause = EmptyDisallow; about = None; detail = Some (Line entry.1) }
