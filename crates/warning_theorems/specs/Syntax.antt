-- What a file in the grammar states for a crawler.
use Rattle.std.specs.Prelude.{ℕ, List, take}
use Rattle.texting_robots.specs.Callers.{RobotValue, file_limit}
use Rattle.rfc9309.specs.{Rfc9309.IsFileWith, StandardRobot.IsRobotAs}
use Rattle.rfc9309.specs.Rfc9309 as rfc

-- the bytes that are read follow the extended grammar, and the robot has what the file states for the crawler
abbrev pub IsRobotStated : List ℕ → List ℕ → RobotValue → Type 0
IsRobotStated agent file robot =
    (groups : List rfc.Group) × (numbers : List (List ℕ)) × (addresses : List (List ℕ))
    × IsFileWith numbers groups (take file_limit file) × rfc.ListsSitemaps addresses (take file_limit file)
    × IsRobotAs agent groups numbers addresses robot
