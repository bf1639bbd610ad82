use Rattle.std.{proofs.Common.◌≡◌, proofs.Common.slice_get, specs.List.filter_map}
use Rattle.texting_robots.specs.{Executable.captured_delays, Executable.file_lines, Internal.Site.delay_of}
use Rattle.texting_robots.proofs.site.Site.own_delay.Given as goal

abbrev pub invariant-loop-line : goal.invariant-loop-line
invariant-loop-line l = record {
  can_next : (goal.iterator-loop-line).can_next l.line-iterator;
  is_finite : (goal.iterator-loop-line).is_finite l.line-iterator;
  delays : slice_get (filter_map delay_of l.line-iterator) 0
      ≡ slice_get (captured_delays l.agent (file_lines l.self)) 0;
}
