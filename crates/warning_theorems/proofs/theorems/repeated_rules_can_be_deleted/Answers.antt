use mathlib.Core.Logic.Iff
use Rattle.texting_robots.specs.Callers.{lines_read}
use Rattle.warning_theorems.proofs.RepeatedLemmas.{same_left, verdict_as_before}
use Rattle.warning_theorems.proofs.theorems.repeated_rules_can_be_deleted.Goals as goal

pub returns : goal.returns
returns c agent file left numbers text answer short all is front =
    let same = (same_left numbers file left agent short is front).0.verdict text answer in
    Iff.trans (verdict_as_before agent (lines_read file) numbers text answer all) (same.1, same.0)
