use Rattle.std.proofs.{Common.◌∙◌}
use Rattle.texting_robots.specs.Callers.{lines_read}
use Rattle.warning_theorems.proofs.{GroupLemmas.delay_as_before, RepeatedLemmas.same_left}
use Rattle.warning_theorems.proofs.theorems.repeated_delay.Goals as goal

pub returns : goal.returns
returns c name agent file left labels numbers short labeled all is front =
    (same_left numbers file left agent short is front).0.delay
    ∙ delay_as_before name agent (lines_read file) labels numbers labeled all
