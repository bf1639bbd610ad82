use Rattle.std.proofs.Common.{◌≡◌, ◌++◌, take}
use Rattle.safe_output.specs.Html.{escaped}
use Rattle.safe_output.proofs.write.push_text.Given as goal

abbrev pub invariant-loop-byte : goal.invariant-loop-byte
invariant-loop-byte l = l.out.items ≡ l.fn.out.items ++ escaped (take l.byte-index l.text)
