use Rattle.std.proofs.Common.{◌≡◌, ◌≤◌, drop}
use Rattle.std.specs.Str.Parse.{digits_value_after}
use Rattle.texting_robots.specs.{Delay.greatest_delay, Internal.Delay.bounded}
use Rattle.texting_robots.proofs.parser.delay.append_digits.Given as goal

abbrev pub invariant-loop-digit : goal.invariant-loop-digit
invariant-loop-digit l =
    (bounded (digits_value_after 10 l.number (drop l.digit-index l.digits))
    ≡ bounded (digits_value_after 10 l.start l.digits))
    × (l.number ≤ greatest_delay)
