use Rattle.std.proofs.Common.{◌≡◌, arith, map}
use Rattle.std.specs.Str.{str_to_ascii_lowercase}
use Rattle.texting_robots.specs.Internal.{Group.captured_ahead, Line.line_of}
use Rattle.texting_robots.proofs.LabelLemmas.{known_next}
use Rattle.texting_robots.proofs.labels.LabeledLineIterIterator.next.Goals.{in-Some, in-None}
use Rattle.texting_robots.proofs.labels.LabeledLineIterIterator.next.Goals as goal

pub invariant_of-self-2 : goal.invariant_of-self-2
invariant_of-self-2 c =
    let name = str_to_ascii_lowercase c.self.inside.name.now in
    let known : captured_ahead name c.self.inside.tracker (map line_of c.self.inside.bodies)
    ≡ c.match-self.captured =
    grind (arith, in-None, in-Some) in
    grind (arith, known_next, c.in_ok-body.ensures.steps, c.new.ensures)
