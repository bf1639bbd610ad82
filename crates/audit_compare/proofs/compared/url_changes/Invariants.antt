use Rattle.std.proofs.Common.{◌≡◌, flat_map, take}
use Rattle.std.specs.List.{zip}
use Rattle.audit_compare.specs.Compare.{change_on, changed}
use Rattle.audit_compare.proofs.compared.url_changes.Given as goal

abbrev pub invariant-loop-at : goal.invariant-loop-at
invariant-loop-at l =
    changed l.found.items
    ≡ flat_map (λ pair. change_on l.rules pair.0 pair.1) (take l.at (zip l.older l.newer))
