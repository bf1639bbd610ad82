use Rattle.rfc9309.proofs.RobotLemmas.{forms_robot, rejected_as, robot_as}
use Rattle.rfc9309.proofs.standard_robots.Goals as goal

pub returns : goal.returns
returns c = record {
  robot = λ agent file. robot_as agent _;
  rejected = λ agent file. rejected_as agent _;
  delays = λ text groups file. file;
  forms = forms_robot;
}
