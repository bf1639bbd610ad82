use Rattle.std.proofs.Common.{◌≡◌, ◌++◌, flat_map, string_bytes}
use Rattle.std.specs.{Io.StartsWith, Str.encode_utf8_all}
use Rattle.safe_output.specs.Sanitize.{without_hash}
use Rattle.safe_output.proofs.sanitize.push_without_hashes.Given as goal

abbrev pub invariant-loop-char : goal.invariant-loop-char
invariant-loop-char l = record {
  whole : string_bytes l.text
      ≡ string_bytes l.fn.text ++ encode_utf8_all (flat_map without_hash l.yielded);
  kept : StartsWith (string_bytes l.text) (string_bytes l.fn.text);
}
