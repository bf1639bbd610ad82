-- The state that the code updates line by line (`GroupTracker`), and what it finds in the lines.
use Rattle.std.specs.Prelude.{ℕ, ◌+◌, Bool, false, not, ◌&&◌, ◌||◌, List, [], ◌∷◌, Option, Some, None}
use Rattle.std.specs.Prelude.{if◌then◌else◌, map}
use Rattle.std.specs.{List.cons_option, List.list_any, Str.is_utf8}
use Rattle.texting_robots.specs.declared.{groups.GroupTracker.GroupTracker, labels.Membership.Membership}
use Rattle.texting_robots.specs.Group.{is_agent, is_member, is_agent_named}
use Rattle.texting_robots.specs.{Internal.Line.line_of, Line.LineValue, Executable.rule_in, Rules.PlacedRule}
use Rattle.texting_robots.specs.Labels.{Label, is_own}
use Rattle.texting_robots.specs.declared.labels.Membership.TheVariants.{Own, Other, Ungrouped}
pub use Rattle.texting_robots.specs.Rules.{placed}

abbrev pub start_of : List LineValue → GroupTracker
start_of lines = record { captured = not (list_any is_agent lines); named = false }

abbrev pub step : List ℕ → GroupTracker → LineValue → GroupTracker
step name tracker line = record {
  captured = if is_agent line then is_agent_named name line || tracker.named else tracker.captured;
  named = is_agent_named name line || (not (is_member line) && tracker.named);
}

abbrev pub if_captured : {X : Type 0} → GroupTracker → Option X → Option X
if_captured tracker found = if tracker.captured then found else None

-- what `given` finds in the captured lines of those that are left, each with its position
abbrev pub from_captured : {X : Type 0} → (ℕ × LineValue → Option X) → List ℕ → GroupTracker → ℕ
    → List LineValue → List X
from_captured given name tracker position [] = []
from_captured given name tracker position (line ∷ lines) =
    cons_option (if_captured tracker (given (position, line)))
    (from_captured given name (step name tracker line) (position + 1) lines)

abbrev pub text_from : List ℕ → Option (List ℕ)
text_from value = if is_utf8 value then Some value else None

-- whether the first member of these, or one at the end, is captured
abbrev pub captured_ahead : List ℕ → GroupTracker → List LineValue → Bool
captured_ahead name tracker [] = tracker.captured
captured_ahead name tracker (line ∷ lines) =
    if is_member line then tracker.captured else captured_ahead name (step name tracker line) lines

-- `captured`: the next member is captured; `begun`: this line or one above is a user-agent line
abbrev pub membership_by : Bool → Bool → LineValue → Membership
membership_by captured begun line =
    if not (is_agent line || is_member line) then Ungrouped
    else if captured then Own else if begun then Other else Ungrouped

-- the labels of the lines with the contents that are left; `before`: a user-agent line is above them
abbrev pub labels_from : List ℕ → GroupTracker → Bool → ℕ → List (List ℕ) → List Label
labels_from name tracker before position [] = []
labels_from name tracker before position (body ∷ bodies) =
    let line = line_of body in
    let begun = before || is_agent line in
    let membership = membership_by (captured_ahead name tracker (line ∷ map line_of bodies)) begun line in
    record { number = position + 1; membership = membership; line = line; body = body }
    ∷ labels_from name (step name tracker line) begun (position + 1) bodies

-- the rule in a labeled line of the crawler's own group
abbrev pub own_rule_at : Label → Option PlacedRule
own_rule_at label = placed label.number (if is_own label.membership then rule_in label.line else None)
