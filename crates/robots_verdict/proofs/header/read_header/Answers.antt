use Rattle.std.proofs.Common.{arith, refl}
use Rattle.robots_verdict.proofs.{InputLemmas.urls_allocated}
use Rattle.robots_verdict.proofs.header.read_header.Goals as goal

pub returns-in_err-agent-clause-fault : goal.returns-in_err-agent-clause-fault
returns-in_err-agent-clause-fault c = grind arith

pub returns-in_err-urls-clause-fault : goal.returns-in_err-urls-clause-fault
returns-in_err-urls-clause-fault c = grind arith

pub returns-in_err-urls-clause-memory : goal.returns-in_err-urls-clause-memory
returns-in_err-urls-clause-memory c = urls_allocated c.from_residual-in_err-urls.result
    c.in_err-urls.field-0.0 c.in_ok-parts.parts.urls.items _
    c.from_residual-in_err-urls.ensures.1 (rw c.deref.ensures.value at c.in_err-urls.ensures.memory)
    c.in_ok-parts.ensures.ok refl

pub returns-clause-input : goal.returns-clause-input
returns-clause-input c = grind arith

pub returns-clause-texts : goal.returns-clause-texts
returns-clause-texts c = grind arith
