-- Rules that repeat a rule above them in their group.
use Rattle.std.specs.Prelude.{◌≡◌, ◌≤◌, ◌<◌, ◌+◌, ℕ, List, Some, false, slice_get, true}
use Rattle.texting_robots.specs.{Callers.LineValue, Group.is_agent, Group.passes_at}
use Rattle.robots_warnings.specs.{Facts.is_rule}

-- the line is above this position, with no user-agent line from there on to the position; both may be above
-- the first user-agent line
pub record IsAbove (lines : List LineValue) (position : ℕ) (line : LineValue) : Type 0 where
  pub other : ℕ
  pub above : other < position
  pub is : slice_get lines other ≡ Some line
  pub no_agent : (k : ℕ) → other ≤ k → k < position → passes_at is_agent lines k ≡ false

-- the line with this number is a rule that is above it in its group, too
pub record IsRepeat (lines : List LineValue) (number : ℕ) : Type 0 where
  pub position : ℕ
  pub line : LineValue
  pub number_is : number ≡ position + 1
  pub at : slice_get lines position ≡ Some line
  pub rule : is_rule line ≡ true
  pub again : IsAbove lines position line
