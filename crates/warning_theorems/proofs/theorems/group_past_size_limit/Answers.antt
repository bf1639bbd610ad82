use Rattle.std.proofs.lemmas.Bool.{not-true}
use Rattle.texting_robots.specs.Callers.{UserAgent}
use Rattle.warning_theorems.proofs.theorems.group_past_size_limit.Goals as goal

pub returns : goal.returns
returns c read file number (position, UserAgent value, is, at, isnt) =
    (position, value, is, at, not-true _ isnt)
returns c read file number (position, line, is, at, isnt) = cc
