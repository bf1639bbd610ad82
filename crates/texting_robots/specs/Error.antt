-- Why a call fails.
use Rattle.std.specs.Prelude.{⊤}
use Rattle.texting_robots.specs.declared.error.{Error.Error, RobotError.RobotError}
use Rattle.texting_robots.specs.declared.error.Error.TheVariants.{InvalidRobots, InvalidRule, Memory}
use Rattle.texting_robots.specs.declared.error.RobotError.TheVariants as rejection

-- `Memory`, or `InvalidRule` if P holds; never `InvalidRobots`
abbrev pub IsMemoryErrorOr : Type 0 → Error → Type 0
IsMemoryErrorOr P InvalidRobots = ⊥
IsMemoryErrorOr P InvalidRule = P
IsMemoryErrorOr P Memory = ⊤

abbrev pub error_of : RobotError → Error
error_of (rejection.Overlong line) = InvalidRule
error_of rejection.Memory = Memory
