-- The code's own types by value, and how lists of warnings grow.
pub mod Closed
pub mod Names
pub mod Rules
pub mod Tells
pub mod Values
pub mod Warned
use Rattle.std.specs.Prelude.{◌≡◌, ℕ, ◌++◌, List, Some, slice_get}
use Rattle.std.specs.Borrow.{Bor}
use Rattle.safe_output.specs.declared.level.Level.{Level}
use Rattle.robots_warnings.specs.{declared.table.Cause.Cause, Message.WarningValue}

abbrev pub Adds : (old found more : List WarningValue) → Type 0
Adds old found more = found ≡ old ++ more

-- a row of the table of warnings
abbrev pub Row : Type 0
Row = Cause × Level × Bor (List ℕ)

pub record IsAt {X : Type 0} (items : List X) (number : ℕ) (item : X) : Type 0 where
  pub found : slice_get items number ≡ Some item

abbrev pub IsRowAt : List Row → ℕ → Row → Type 0
IsRowAt rows number row = IsAt rows number row

abbrev pub row_value : Bor (List ℕ) × Bor (List ℕ) → List ℕ × List ℕ
row_value row = (row.0.now, row.1.now)
