use Rattle.rfc9309.proofs.EditLemmas.{rejected_same, robot_same}
use Rattle.rfc9309.proofs.edits.rules_of_others_change_nothing.Goals as goal

pub returns : goal.returns
returns c = record {
  robot = λ agent file other robot is. robot_same agent file other is robot;
  rejection = rejected_same;
}
