use Rattle.std.proofs.Common.{◌≡◌, take}
use Rattle.audit_core.proofs.audit.are_same.Given as goal

abbrev pub invariant-loop-k : goal.invariant-loop-k
invariant-loop-k l = take l.k l.rules ≡ take l.k l.others
