use Rattle.std.proofs.Common.{◌≡◌, map, string_bytes, take}
use Rattle.safe_output.specs.Lines.{ended}
use Rattle.c_calls.proofs.texts.lines_of.Given as goal

abbrev pub invariant-loop-text : goal.invariant-loop-text
invariant-loop-text l =
    string_bytes l.lines ≡ ended (map (λ text. text.now) (take l.text-index l.texts))
