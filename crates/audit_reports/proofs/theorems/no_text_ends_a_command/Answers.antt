use Rattle.std.proofs.Common.{false}
use Rattle.safe_output.proofs.{CommandLemmas.sanitized_quiet, SanitizeLemmas.sanitized_in_printable}
use Rattle.audit_reports.proofs.{GithubLemmas.property_inside}
use Rattle.audit_reports.specs.Github.{command_of}
use Rattle.audit_reports.proofs.theorems.no_text_ends_a_command.Goals as goal

pub returns : goal.returns
returns c = record {
  line = λ file finding. sanitized_in_printable false (command_of file finding);
  property = property_inside;
  inside = λ file finding. sanitized_quiet false (command_of file finding);
}
