use Rattle.std.proofs.Common.{◌≡◌, flat_map, string_bytes}
use Rattle.std.specs.Str.{encode_utf8_all}
use Rattle.audit_reports.specs.Sarif.{literal_char}
use Rattle.audit_reports.proofs.sarif.literal_text.Given as goal

abbrev pub invariant-loop-char : goal.invariant-loop-char
invariant-loop-char l =
    string_bytes l.message ≡ encode_utf8_all (flat_map literal_char l.yielded)
