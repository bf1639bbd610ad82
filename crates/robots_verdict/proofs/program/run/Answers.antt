use Rattle.std.proofs.Common.{arith}
use Rattle.std.specs.Io.KnownBytes.{Appends}
use Rattle.safe_output.specs.Streams.{AppendsBeginning}
use Rattle.robots_verdict.proofs.ReportLemmas.{run_wrote}
use Rattle.robots_verdict.proofs.program.run.Goals as goal

pub returns-in_err-text-clause-no_empty_line : goal.returns-in_err-text-clause-no_empty_line
returns-in_err-text-clause-no_empty_line g c = grind arith

pub returns-in_err-text-clause-invalid_rule : goal.returns-in_err-text-clause-invalid_rule
returns-in_err-text-clause-invalid_rule g c = grind arith

pub returns-in_err-input-clause-memory : goal.returns-in_err-input-clause-memory
returns-in_err-input-clause-memory g c = grind arith

pub returns-in_err-text-clause-memory : goal.returns-in_err-text-clause-memory
returns-in_err-text-clause-memory g c = grind arith

pub returns-clause-ok : goal.returns-clause-ok
returns-clause-ok g c = run_wrote _ (Appends _ _) _ _ _ _ c.in_ok-input.ensures.all c.deref.ensures.value
    c.in_ok-text.ensures.ok c.as_bytes.ensures.value c.in_ok-write_out.ensures.ok

pub returns-in_err-write_out-clause-beginning : goal.returns-in_err-write_out-clause-beginning
returns-in_err-write_out-clause-beginning g c =
    λ is. run_wrote _ (AppendsBeginning _ _) _ _ _ _ c.in_ok-input.ensures.all c.deref.ensures.value
    c.in_ok-text.ensures.ok c.as_bytes.ensures.value c.write_out.ensures.beginning
