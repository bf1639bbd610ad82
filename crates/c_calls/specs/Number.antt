-- The numbers of a robot and of a site, by which of them is asked for.
use Rattle.std.specs.Prelude.{◌≡◌, ℕ, ◌*◌, ◌<◌, ◌≤◌, List, None, Some, IsUtf8, length, if◌then◌else◌}
use Rattle.texting_robots.specs.Callers.{cost_of, file_lines, is_named, seen_of}
use Rattle.c_calls.specs.{File.HasDelay, declared.error.Error.Error, declared.reading.OpenRobot.OpenRobot}
use Rattle.c_calls.specs.declared.error.Error.TheVariants.{NoDelay, NotUtf8}

-- a cost for a match target of this length, at least the bytes of the rules, or the delay
pub record IsNumber (robot : OpenRobot) (which len number : ℕ) : Type 0 where
  pub cost : which ≡ 0 → number ≡ seen_of (cost_of robot.robot.rules len)
  pub bytes : which ≡ 1 → seen_of (64 * length robot.robot.rules) ≤ number
  pub delay : 1 < which → robot.delay ≡ Some number

-- at least the bytes of the file, 1 if a user-agent line names the crawler and else 0, or its delay
pub record IsSiteNumber (file : List ℕ) (which : ℕ) (agent : List ℕ) (number : ℕ) : Type 0 where
  pub bytes : which ≡ 0 → length file ≤ number
  pub named : which ≡ 1 → IsUtf8 agent × (number ≡ (if is_named agent (file_lines file) then 1 else 0))
  pub delay : 1 < which → HasDelay agent file (Some number)

abbrev pub IsWhyNoSiteNumber : List ℕ → ℕ → List ℕ → Error → Type 0
IsWhyNoSiteNumber file which agent NotUtf8 = (0 < which) × ¬ IsUtf8 agent
IsWhyNoSiteNumber file which agent NoDelay = (1 < which) × HasDelay agent file None
IsWhyNoSiteNumber file which agent _ = ⊥
