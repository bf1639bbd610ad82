-- What the main theorem states about a result.
use Rattle.std.specs.Prelude.{Bool, List, ℕ, Result, IfErr, IfOk}
use Rattle.texting_robots.specs.{declared.error.Error.Error, Decision.LooksForRules, Error.IsMemoryErrorOr}
use Rattle.texting_robots.specs.{Line.LineValue, Verdict.IsVerdict, View.ViewValue}
use Rattle.texting_robots.specs.Rules.{IsRejected, PlacedRule, unplaced}

-- `answer` is the result for an agent, lines that hold these rules for it, and the text of a view. Want of
-- memory aside, it is an error exactly if some line holds an overlong rule for the agent. Otherwise it is
-- the verdict of the rules on the text. In both cases the looks taken are within `LooksForRules`.
pub record IsAnswerOf (agent : List ℕ) (lines : List LineValue) (rules : List PlacedRule)
    (old new : ViewValue) (answer : Result Bool Error) : Type 0 where
  pub rejected : IfErr answer (IsMemoryErrorOr (IsRejected agent lines))
  pub accepted : IfOk answer (λ _. ¬ IsRejected agent lines)
  pub verdict : IfOk answer (IsVerdict (unplaced rules) old.text)
  pub looks : LooksForRules rules old new
