use Rattle.std.proofs.Common.{take}
use Rattle.texting_robots.specs.Callers.{file_limit, file_lines}
use Rattle.robots_rules.proofs.CrawlerLemmas.{named_alike, unnamed_alike}
use Rattle.warning_theorems.proofs.TheoremLemmas.{alike}
use Rattle.warning_theorems.proofs.theorems.needless_lines_decide_nothing.Goals as goal

pub returns-clause-named : goal.returns-clause-named
returns-clause-named c = λ requested file audit is agent name has same.
    let read = take file_limit file in
    alike read is.needless.rules agent is.needless_are
    (λ numbers are. named_alike numbers (file_lines read) are agent name has same)

pub returns-clause-others : goal.returns-clause-others
returns-clause-others c = λ requested file audit is agent isnt.
    let read = take file_limit file in
    alike read is.needless.rules agent is.needless_are
    (λ numbers are. unnamed_alike numbers (file_lines read) are agent isnt)
