use Rattle.std.proofs.Common.{◌≡◌, flat_map, length, map, take}
use Rattle.audit_expect.specs.Expect.{line_expects}
use Rattle.audit_expect.specs.Internal.Expectations.{expected_by}
use Rattle.audit_expect.proofs.expect.line_expectations.Given as goal

abbrev pub invariant-loop-line : goal.invariant-loop-line
invariant-loop-line l =
    length l.malformed.items ≡ 0
    → expected_by l.found.items
    ≡ flat_map line_expects (map (λ line. line.now) (take l.line-index l.line-items))
