use Rattle.std.proofs.Common.{◌≡◌, ℕ, List, length, min, take, arith}
use Rattle.std.proofs.lemmas.{Bool.false≢true, List.take_min}
use Rattle.texting_robots.proofs.MainTheoremLemmas.{if_err, read_nothing, computed_robot}
use Rattle.texting_robots.proofs.robot.Robot.with_limit.Goals as goal

read : (limit n : ℕ) (txt : List ℕ) → n ≡ min limit (length txt) → take n txt ≡ take limit txt
read limit n txt is = cc (take_min _ _)

pub returns-clause-robot : goal.returns-clause-robot
returns-clause-robot c = grind (arith, read, computed_robot)

pub returns-in_err-parts-clause-rejected : goal.returns-in_err-parts-clause-rejected
returns-in_err-parts-clause-rejected c = grind (arith, if_err, read)

pub returns-in_err-parts-clause-without_memory : goal.returns-in_err-parts-clause-without_memory
returns-in_err-parts-clause-without_memory c = λ nothing.
    let (rules, sitemaps) = read_nothing c.args.agent.now _ nothing in
    absurd (false≢true ((rw (read _ _ _ c.min.ensures) at c.in_err-parts.ensures.without_memory)
    rules sitemaps))
