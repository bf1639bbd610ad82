use Rattle.std.proofs.Common.{◌≡◌, map, drop}
use Rattle.std.specs.Str.{str_to_ascii_lowercase}
use Rattle.texting_robots.specs.Internal.Statement.{after_any}
use Rattle.texting_robots.proofs.parser.statement.after_any.Given as goal

abbrev pub invariant-loop-name : goal.invariant-loop-name
invariant-loop-name l =
    after_any (map (λ s. str_to_ascii_lowercase s.now) (drop l.name-index l.field_names)) l.text
    ≡ after_any (map (λ s. str_to_ascii_lowercase s.now) l.field_names) l.text
