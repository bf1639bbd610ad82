use Rattle.std.specs.Str.{chars}
use Rattle.audit_reports.proofs.sarif.message_json.Goals as goal

pub escaped_json-requires : goal.escaped_json-requires
escaped_json-requires c = record { text = chars c.args.text.now; escaped = c.in_ok-literal_text.ensures }
