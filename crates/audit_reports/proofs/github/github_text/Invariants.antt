use Rattle.std.proofs.Common.{◌≡◌, map, string_bytes, take}
use Rattle.safe_output.specs.Lines.{ended}
use Rattle.audit_reports.specs.Github.{command}
use Rattle.audit_reports.proofs.github.github_text.Given as goal

abbrev pub invariant-loop-finding : goal.invariant-loop-finding
invariant-loop-finding l =
    string_bytes l.out ≡ ended (map (command (string_bytes l.name)) (take l.finding-index l.findings))
