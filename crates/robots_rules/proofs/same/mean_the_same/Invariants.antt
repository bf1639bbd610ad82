use Rattle.std.proofs.Common.{All, take}
use Rattle.texting_robots.specs.Callers.{file_lines}
use Rattle.robots_rules.specs.Needless.{MeanTheSame}
use Rattle.robots_rules.proofs.same.mean_the_same.Given as goal

abbrev pub invariant-loop-one : goal.invariant-loop-one
invariant-loop-one l =
    All (λ one. MeanTheSame one.agent (file_lines l.site) (file_lines l.other)) (take l.one-index l.settled)
