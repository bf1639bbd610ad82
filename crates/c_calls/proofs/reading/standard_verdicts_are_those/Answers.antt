use Rattle.std.proofs.Common.{refl}
use Rattle.rfc9309.proofs.StandardLemmas.{decides}
use Rattle.rfc9309.specs.StandardTarget.{written_target}
use Rattle.c_calls.specs.{File.bytes_read, Verdicts.is_allowed, Verdicts.line_named}
use Rattle.c_calls.proofs.reading.standard_verdicts_are_those.Goals as goal

pub returns : goal.returns
returns c = λ agent file url robot number is says.
    let on = rw is.reading at says in
    (decides robot.robot _ (record { allowed = is_allowed number; line = line_named number })
    on.verdict on.deciding).verdict agent (bytes_read file) (written_target url) is.rules refl
