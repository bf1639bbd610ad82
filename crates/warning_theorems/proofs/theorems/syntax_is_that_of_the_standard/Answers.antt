use Rattle.std.proofs.Common.{subst, sym, take_all}
use Rattle.texting_robots.specs.Callers.{file_limit}
use Rattle.rfc9309.specs.{LineForms.AreForms}
use Rattle.rfc9309.proofs.DecidedLemmas.{files_decided}
use Rattle.rfc9309.proofs.{LineFormLemmas.file_has_forms, RobotLemmas.forms_robot}
use Rattle.warning_theorems.proofs.theorems.syntax_is_that_of_the_standard.Goals as goal

pub returns-clause-syntax : goal.returns-clause-syntax
returns-clause-syntax c requested file audit is = rw is.syntax_is (files_decided file)

pub returns-clause-robot : goal.returns-clause-robot
returns-clause-robot c requested file audit is standard agent robot of =
    let (short, (groups, written)) = (files_decided file).0 (rw is.syntax_is at standard) in
    let (forms, are) = file_has_forms file groups written in
    forms_robot agent file forms robot
    (subst (AreForms forms) (sym (take_all file_limit file short)) are) of
