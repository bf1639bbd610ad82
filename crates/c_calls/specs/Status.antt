-- The statuses that C functions return, and their causes.
use Rattle.std.specs.Prelude.{◌≡◌, ◌⊎◌, ℕ, ◌*◌, ◌<◌, ◌≤◌, ℤ, pos, negsuc, List, Ok, Err, IsUtf8, length}
use Rattle.texting_robots.specs.Callers.{IsFirstOverlong, cost_of, file_lines, placed_rules, robots_address}
use Rattle.url.specs.declared.error.{ParseError.ParseError}
use Rattle.c_calls.specs.{File.target_in, Verdicts.items_in, declared.error.Error.Error}
use Rattle.c_calls.specs.{declared.reading.OpenRobot.OpenRobot}
use Rattle.c_calls.specs.declared.error.Error.TheVariants.{Memory, NoRobotsUrl, NoDelay, BufferTooSmall}
use Rattle.texting_robots.specs.declared.error.RobotError.{RobotError}
use Rattle.texting_robots.specs.declared.error.RobotError.TheVariants as rejection
use Rattle.c_calls.specs.declared.error.Error.TheVariants.{InvalidEnds, NotUtf8, Overlong, TooCostly}

abbrev pub error_of : RobotError → Error
error_of (rejection.Overlong line) = Overlong line
error_of rejection.Memory = Memory

-- -1 to -8
abbrev pub status_of : Error → ℤ
status_of NotUtf8 = negsuc 0
status_of Memory = negsuc 1
status_of BufferTooSmall = negsuc 2
status_of NoDelay = negsuc 3
status_of NoRobotsUrl = negsuc 4
status_of (Overlong line) = negsuc 5
status_of InvalidEnds = negsuc 6
status_of TooCostly = negsuc 7

-- the status is 0, or that of an error for which Why holds
abbrev pub HasError : (Error → Type 0) → ℤ → Type 0
HasError Why status = (status ≡ pos 0) ⊎ ((error : Error) × Why error × (status ≡ status_of error))

-- the line of the rule that is too long, or the old value of the caller's variable
abbrev pub line_after : Error → ℕ → ℕ
line_after (Overlong line) old = line
line_after error old = old

-- `HasError`, with the caller's variable for a line
abbrev pub HasErrorAt : (Error → Type 0) → ℤ → ℕ → ℕ → Type 0
HasErrorAt Why status old new = ((status ≡ pos 0) × (new ≡ old))
    ⊎ ((error : Error) × Why error × (status ≡ status_of error) × (new ≡ line_after error old))

-- ---- The cause of each error, by task: texts come first, then room for verdicts, then allocations.

-- the number, counted from 1, of the first line with a rule for the crawler that is too long
abbrev pub IsOverlongLine : List ℕ → List ℕ → ℕ → Type 0
IsOverlongLine agent text line = IsFirstOverlong (placed_rules agent (file_lines text)) line

abbrev pub IsWhyNoRobot : List ℕ → List ℕ → Error → Type 0
IsWhyNoRobot agent text NotUtf8 = ¬ IsUtf8 agent
IsWhyNoRobot agent text Memory = IsUtf8 agent
IsWhyNoRobot agent text (Overlong line) = IsUtf8 agent × IsOverlongLine agent text line
IsWhyNoRobot agent text _ = ⊥

abbrev pub IsWhyNoSite : Error → Type 0
IsWhyNoSite error = error ≡ Memory

-- the verdicts for the URLs in a string, with this capacity for numbers
abbrev pub IsWhyNoVerdicts : List ℕ → ℕ → Error → Type 0
IsWhyNoVerdicts text capacity NotUtf8 = ¬ IsUtf8 text
IsWhyNoVerdicts text capacity Memory = IsUtf8 text × (length (items_in text) ≤ capacity)
IsWhyNoVerdicts text capacity BufferTooSmall = IsUtf8 text × (capacity < length (items_in text))
IsWhyNoVerdicts text capacity _ = ⊥

-- making a robot from a file, and its verdicts
abbrev pub IsWhyUndecided : List ℕ → List ℕ → List ℕ → ℕ → Error → Type 0
IsWhyUndecided agent site text capacity NotUtf8 = (¬ IsUtf8 agent) ⊎ (¬ IsUtf8 text)
IsWhyUndecided agent site text capacity BufferTooSmall = IsUtf8 agent
    × IsWhyNoVerdicts text capacity BufferTooSmall
IsWhyUndecided agent site text capacity error = IsUtf8 text × (length (items_in text) ≤ capacity)
    × IsWhyNoRobot agent site error

-- the verdicts of many crawlers for many URLs; a rule that is too long isn't an error
abbrev pub IsWhyNoMatrix : List ℕ → List ℕ → ℕ → Error → Type 0
IsWhyNoMatrix agents urls capacity NotUtf8 = (¬ IsUtf8 agents) ⊎ (¬ IsUtf8 urls)
IsWhyNoMatrix agents urls capacity Memory =
    IsUtf8 agents × IsUtf8 urls × (length (items_in agents) * length (items_in urls) ≤ capacity)
IsWhyNoMatrix agents urls capacity BufferTooSmall =
    IsUtf8 agents × IsUtf8 urls × (capacity < length (items_in agents) * length (items_in urls))
IsWhyNoMatrix agents urls capacity _ = ⊥

-- the verdict for one URL
abbrev pub IsWhyNoVerdict : List ℕ → Error → Type 0
IsWhyNoVerdict url NotUtf8 = ¬ IsUtf8 url
IsWhyNoVerdict url Memory = IsUtf8 url
IsWhyNoVerdict url _ = ⊥

-- the verdict for one URL within this budget, whose match target is allocated
abbrev pub IsWhyNotWithin : OpenRobot → List ℕ → ℕ → Error → Type 0
IsWhyNotWithin robot url budget NotUtf8 = ¬ IsUtf8 url
IsWhyNotWithin robot url budget Memory = IsUtf8 url
IsWhyNotWithin robot url budget TooCostly =
    IsUtf8 url × (budget < cost_of robot.robot.rules (length (target_in robot.by_rfc9309 url)))
IsWhyNotWithin robot url budget _ = ⊥

abbrev pub IsRobotsUrl : List ℕ → List ℕ → Type 0
IsRobotsUrl url text = IsUtf8 url × (robots_address url ≡ Ok text)

abbrev pub IsWhyNoRobotsUrl : List ℕ → Error → Type 0
IsWhyNoRobotsUrl url NotUtf8 = ¬ IsUtf8 url
IsWhyNoRobotsUrl url Memory = IsUtf8 url
IsWhyNoRobotsUrl url NoRobotsUrl = IsUtf8 url × ((error : ParseError) × (robots_address url ≡ Err error))
IsWhyNoRobotsUrl url _ = ⊥
