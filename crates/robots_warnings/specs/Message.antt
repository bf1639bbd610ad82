-- Warnings.
use Rattle.std.specs.Prelude.{ℕ, List, Option}
use Rattle.robots_warnings.specs.declared.{table.Cause.Cause, warning.Detail.Detail}

-- a warning: the number of its line, if it is about one; the reason; the URL or the crawler's name, if its
-- message begins with one; and what its message ends with, besides its text
pub record WarningValue : Type 0 where
  pub line : Option ℕ
  pub cause : Cause
  pub about : Option (List ℕ)
  pub detail : Option Detail
