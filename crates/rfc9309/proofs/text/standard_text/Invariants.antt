use Rattle.std.proofs.Common.{◌≡◌, ◌++◌, map, take}
use Rattle.texting_robots.specs.Internal.{Line.line_of}
use Rattle.rfc9309.specs.StandardReading.{standard_text}
use Rattle.rfc9309.proofs.{TextLemmas.lines_of}
use Rattle.rfc9309.proofs.text.standard_text.Given as goal

abbrev pub invariant-loop-body : goal.invariant-loop-body
invariant-loop-body l = record {
  lines : l.lines ≡ map line_of l.body-iterator;
  text : l.text.items ++ lines_of l.below l.body-iterator ≡ standard_text (take l.fn.limit l.fn.file);
}
