use Rattle.std.proofs.Common.{take}
use Rattle.texting_robots.specs.Callers.{file_limit}
use Rattle.rfc9309.proofs.VerdictLemmas.{robot_agrees, verdicts_agree}
use Rattle.rfc9309.proofs.verdict.verdicts_agree.Goals as goal

pub returns : goal.returns
returns c = record {
  rules = λ stays count members rules uri answer zip fit.
      verdicts_agree stays count members rules uri zip fit answer;
  robot = λ stays count agent file. robot_agrees stays count agent (take file_limit file);
}
