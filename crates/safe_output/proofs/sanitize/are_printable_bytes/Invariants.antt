use Rattle.std.proofs.Common.{◌≡◌, take}
use Rattle.std.specs.List.{list_all}
use Rattle.safe_output.specs.Sanitize.{is_printable_byte}
use Rattle.safe_output.proofs.sanitize.are_printable_bytes.Given as goal

abbrev pub invariant-loop-byte : goal.invariant-loop-byte
invariant-loop-byte l = l.all ≡ list_all (is_printable_byte l.has_lines) (take l.byte-index l.bytes)
