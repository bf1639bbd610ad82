use Rattle.std.proofs.Common.{◌≡◌, ◌++◌, map, slice_get, string_bytes}
use Rattle.std.specs.{List.All, Option.option_or}
use Rattle.std.specs.Iterator.Adapters.{enumerate_count, enumerate_source}
use Rattle.texting_robots.specs.Internal.{Segments.AreEntries, Segments.rules_in, Group.from_captured}
use Rattle.texting_robots.specs.Executable.{captured_delays, file_lines, placed_in, placed_rules, sitemaps_in}
use Rattle.texting_robots.specs.{Group.group_name, Line.delay_in, Pattern.IsOverlong, Rules.PlacedRule}
use Rattle.texting_robots.proofs.builder.read_file.Given as goal

-- what was read so far and what the remaining lines give is what the file gives
abbrev pub invariant-loop-position : goal.invariant-loop-position
invariant-loop-position l =
    let lines = file_lines l.txt in
    let name = group_name l.agent lines in
    let position = enumerate_count l.position-iterator in
    let left = enumerate_source l.position-iterator in
    let tracker = l.reading.tracker in
    record {
      known : AreEntries l.reading.rules;
      rules : rules_in l.reading.rules ++ from_captured placed_in name tracker position left
          ≡ placed_rules l.agent lines;
      sitemaps : map string_bytes l.reading.sitemaps.items ++ sitemaps_in left ≡ sitemaps_in lines;
      delay : option_or l.reading.delay
          (slice_get (from_captured (λ p. delay_in p.1) name tracker position left) 0)
          ≡ slice_get (captured_delays l.agent lines) 0;
      accepted : All (λ (placed : PlacedRule). IsOverlong placed.rule.0 → ⊥) (rules_in l.reading.rules);
    }
