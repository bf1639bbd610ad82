use Rattle.std.proofs.Common.{map, take}
use Rattle.std.specs.List.{AllZip}
use Rattle.audit_core.specs.{Audit.IsVerdictOn, Internal.rules_by}
use Rattle.audit_core.proofs.rulings.verdicts_on.Given as goal

abbrev pub invariant-loop-url : goal.invariant-loop-url
invariant-loop-url l =
    AllZip (IsVerdictOn l.robot.rules (rules_by l.standard)) (map (λ url. url.now) (take l.url-index l.urls))
    l.verdicts.items
