use Rattle.std.proofs.Common.{string_bytes}
use Rattle.safe_output.specs.Text.{IsColoredTo}
use Rattle.safe_output.proofs.color.colored.Given as goal

abbrev pub invariant-loop-place : goal.invariant-loop-place
invariant-loop-place l = IsColoredTo l.text l.rest (string_bytes l.shown)
