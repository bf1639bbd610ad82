use Rattle.robots_rules.specs.Needless.{numbers_of}
use Rattle.robots_rules.proofs.LeftLemmas.{same_robot}
use Rattle.robots_rules.proofs.theorems.deleting_changes_no_robot.Goals as goal

pub returns : goal.returns
returns c = λ file left found agent are some is utf8.
    same_robot file left (numbers_of found) (are.deletable some) is agent utf8
