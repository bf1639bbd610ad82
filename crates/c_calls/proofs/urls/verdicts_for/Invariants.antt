use Rattle.std.proofs.Common.{map, take}
use Rattle.std.specs.List.{AllZip}
use Rattle.c_calls.specs.Verdicts.{IsVerdictFor}
use Rattle.c_calls.proofs.urls.verdicts_for.Given as goal

abbrev pub invariant-loop-url : goal.invariant-loop-url
invariant-loop-url l =
    AllZip (IsVerdictFor l.robot) (map (λ url. url.now) (take l.url-index l.url-items)) l.numbers.items
