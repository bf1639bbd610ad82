-- A robot by functions of its lines.
use Rattle.std.specs.Prelude.{◌≡◌, ℕ, List, Any, IsPermutation}
use Rattle.texting_robots.specs.{Line.LineValue, Pattern.IsOverlong, Robot.RobotValue, Rules.Rule}
use Rattle.texting_robots.specs.Executable.{delay_for, placed_rules, rules_for, sitemaps_in}

abbrev pub SomeOverlong : List ℕ → List LineValue → Type 0
SomeOverlong agent lines = Any (λ (rule : Rule). IsOverlong rule.0) (rules_for agent lines)

pub record IsComputedRobot (agent : List ℕ) (lines : List LineValue) (robot : RobotValue) : Type 0 where
  pub delay : robot.delay ≡ delay_for agent lines
  pub sitemaps : robot.sitemaps ≡ sitemaps_in lines
  pub rules : IsPermutation (placed_rules agent lines) robot.rules
  pub accepted : ¬ SomeOverlong agent lines
