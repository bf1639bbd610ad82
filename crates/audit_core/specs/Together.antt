-- Needless rules, which can be deleted only all together.
use Rattle.std.specs.Prelude.{ℕ, Bool, true, false, List, [], if◌then◌else◌, option_to_list}
use Rattle.robots_warnings.specs.{declared.table.Cause.Cause, Message.WarningValue}
use Rattle.robots_warnings.specs.declared.table.Cause.TheVariants as causes

-- a warning for this reason is about a needless rule
abbrev pub is_needless : Cause → Bool
is_needless causes.NeverDecides = true
is_needless causes.MatchesNothing = true
is_needless causes.AllowedAnyway = true
is_needless causes.NotNeeded = true
is_needless cause = false

-- the line of a warning, if that is about a needless rule
abbrev pub needless_line : WarningValue → List ℕ
needless_line warning = if is_needless warning.cause then option_to_list warning.line else []
