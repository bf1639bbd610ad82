use Rattle.std.proofs.Common.{◌≡◌, flat_map, map, take}
use Rattle.texting_robots.specs.Callers.{lines_read}
use Rattle.audit_expect.specs.Expectations.{about_each, all_crawlers}
use Rattle.audit_expect.specs.Internal.Expectations.{expectation_value}
use Rattle.audit_expect.proofs.any.about_each.Given as goal

abbrev pub invariant-loop-expectation : goal.invariant-loop-expectation
invariant-loop-expectation l =
    map expectation_value l.found.items
    ≡ flat_map (about_each (all_crawlers (lines_read l.read.bytes.now)))
    (map expectation_value (take l.expectation-index l.expectations))
