use Rattle.std.proofs.Common.{◌≡◌, ◌++◌, map, take}
use Rattle.audit_expect.specs.Internal.Expectations.{expectation_value}
use Rattle.audit_expect.proofs.any.push_about_each.Given as goal

abbrev pub invariant-loop-agent : goal.invariant-loop-agent
invariant-loop-agent l =
    map expectation_value l.found.items
    ≡ map expectation_value l.fn.found.items
    ++ map (λ name. record (expectation_value l.expectation) { agent = name })
    (map (λ name. name.now) (take l.agent-index l.names))
