use Rattle.std.proofs.Common.{◌≡◌, ◌++◌, length, string_bytes}
use Rattle.std.specs.Io.{StartsWith}
use Rattle.safe_output.specs.Sanitize.{safe_in}
use Rattle.safe_output.proofs.sanitize.push_chunks.Given as goal

abbrev pub invariant-loop-rest : goal.invariant-loop-rest
invariant-loop-rest l = record {
  whole : string_bytes l.text ++ safe_in l.has_lines l.rest
      ≡ string_bytes l.fn.text ++ safe_in l.has_lines l.fn.bytes;
  kept : StartsWith (string_bytes l.text) (string_bytes l.fn.text);
}

abbrev pub decreases-loop-rest : goal.decreases-loop-rest
decreases-loop-rest l = length l.rest
