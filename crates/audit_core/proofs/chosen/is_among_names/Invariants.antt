use Rattle.std.proofs.Common.{◌≡◌, drop, map}
use Rattle.audit_core.specs.Chosen.{is_among_names}
use Rattle.audit_core.proofs.chosen.is_among_names.Given as goal

abbrev pub invariant-loop-other : goal.invariant-loop-other
invariant-loop-other l =
    is_among_names (map (λ name. name.now) (drop l.other-index l.names)) l.name
    ≡ is_among_names (map (λ name. name.now) l.names) l.name
