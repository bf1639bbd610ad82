-- Conditions on the position of a line.
use Rattle.std.specs.Prelude.{[], ℕ, Bool, true, false, not, ◌||◌, ◌&&◌, List, ◌∷◌, Option, None, ◌++◌}
use Rattle.std.specs.Prelude.{Some, ◌==◌, if◌then◌else◌}
use Rattle.std.specs.{Option.option_or}
use Rattle.texting_robots.specs.Callers.{CrawlDelay, LineValue, Label, UserAgent}
use Rattle.texting_robots.specs.{Group.is_member, Line.delay_in}
use Rattle.texting_robots.specs.declared.labels.Membership.{Membership, TheVariants.Ungrouped}
use Rattle.robots_warnings.specs.{Facts.is_rule}

-- the first delay of the group of this line; `first` is that of the lines above it
abbrev pub first_delay : Option ℕ → LineValue → Option ℕ
first_delay first (UserAgent value) = None
first_delay first (CrawlDelay delay) = option_or first delay
first_delay first _ = first

-- these lines begin with user-agent lines, and the test holds for one of their names
abbrev pub begin_with_one : (List ℕ → Bool) → List LineValue → Bool
begin_with_one test [] = false
begin_with_one test (UserAgent value ∷ lines) = test value || begin_with_one test lines
begin_with_one test (line ∷ lines) = not (is_member line) && begin_with_one test lines

abbrev pub is_outside : Membership → Bool
is_outside Ungrouped = true
is_outside _ = false

abbrev pub is_above_agents : Label → Bool
is_above_agents label = is_rule label.line && is_outside label.membership

abbrev pub are_different : Option ℕ → Option ℕ → Bool
are_different (Some one) (Some other) = not (one == other)
are_different _ _ = false

-- a delay that differs from the first one of its group
abbrev pub is_other_delay : Option ℕ → Label → Bool
is_other_delay first label =
    not (is_outside label.membership) && are_different first (delay_in label.line)

-- the numbers of such delays in these lines, where `first` is the first one of the group above them
abbrev pub later_delays_from : Option ℕ → List Label → List ℕ
later_delays_from first [] = []
later_delays_from first (label ∷ labels) =
    (if is_other_delay first label then label.number ∷ [] else [])
    ++ later_delays_from (first_delay first label.line) labels

abbrev pub later_delays : List Label → List ℕ
later_delays labels = later_delays_from None labels
