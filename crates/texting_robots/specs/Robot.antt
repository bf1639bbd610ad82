-- What contracts state about a robot.
use Rattle.std.specs.Prelude.{◌≡◌, ◌↔◌, ℕ, [], Bool, List, Option}
use Rattle.texting_robots.specs.{Rules.AreRulesFor, Cost.cost_of, Decision.IsDecidingLine, Line.HasLines}
use Rattle.texting_robots.specs.{Decision.LooksForRules, Line.LineValue, Verdict.IsVerdict, View.ViewValue}
use Rattle.texting_robots.specs.Rules.{AreSitemapsOf, IsDelayFor, IsRejected, PlacedRule, unplaced}

-- how many bytes of a file are used
abbrev pub file_limit : ℕ
file_limit = 512000

pub record RobotValue : Type 0 where
  pub delay : Option ℕ
  pub sitemaps : List (List ℕ)
  pub rules : List PlacedRule

-- the robot for this crawler and these lines; none of its rules is overlong
pub record IsRobotOf (agent : List ℕ) (lines : List LineValue) (robot : RobotValue) : Type 0 where
  pub delay : IsDelayFor agent lines robot.delay
  pub sitemaps : AreSitemapsOf lines robot.sitemaps
  pub rules : AreRulesFor agent lines robot.rules
  pub accepted : ¬ IsRejected agent lines

abbrev pub IsRobotOfFile : List ℕ → List ℕ → RobotValue → Type 0
IsRobotOfFile agent file robot = HasLines file (λ lines. IsRobotOf agent lines robot)

-- the robot for this crawler and this file, but without sitemaps
abbrev pub IsRobotWithoutSitemaps : List ℕ → List ℕ → RobotValue → Type 0
IsRobotWithoutSitemaps agent file robot =
    (robot.sitemaps ≡ []) × (sitemaps : List (List ℕ))
    × IsRobotOfFile agent file (record { delay = robot.delay; sitemaps = sitemaps; rules = robot.rules })

abbrev pub IsFileRejected : List ℕ → List ℕ → Type 0
IsFileRejected agent file = HasLines file (IsRejected agent)

-- the two lists have the same verdicts, deciding lines, bounds on looks, and costs
pub record AnswerAlike (rules others : List PlacedRule) : Type 0 where
  pub verdicts : (text : List ℕ) (answer : Bool)
      → IsVerdict (unplaced rules) text answer ↔ IsVerdict (unplaced others) text answer
  pub deciding : (text : List ℕ) (line : Option ℕ)
      → IsDecidingLine rules text line ↔ IsDecidingLine others text line
  pub looks : (old new : ViewValue) → LooksForRules rules old new ↔ LooksForRules others old new
  pub costs : (n : ℕ) → cost_of rules n ≡ cost_of others n
