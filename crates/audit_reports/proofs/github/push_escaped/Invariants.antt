use Rattle.std.proofs.Common.{◌≡◌, ◌++◌, take}
use Rattle.audit_reports.specs.Github.{escaped}
use Rattle.audit_reports.proofs.github.push_escaped.Given as goal

abbrev pub invariant-loop-byte : goal.invariant-loop-byte
invariant-loop-byte l =
    l.out.items ≡ l.fn.out.items ++ escaped l.is_property (take l.byte-index l.text)
