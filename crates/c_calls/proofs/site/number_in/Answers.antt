use Rattle.std.proofs.Common.{arith}
use Rattle.c_calls.proofs.site.number_in.Goals as goal

pub returns-in-Some-clause-ok : goal.returns-in-Some-clause-ok
returns-in-Some-clause-ok c = record {
  bytes = λ zero. absurd (c.if-which-eq0.false zero);
  named = λ one. absurd (c.if-which-eq1.false one);
  delay = λ _. (
    c.in_ok-agent.ensures.ok.1,
    rw (c.in_ok-agent.ensures.ok.0, c.in-Some.is) at c.delay.ensures,
  );
}

pub returns-in-None-clause-error : goal.returns-in-None-clause-error
returns-in-None-clause-error c = (
  omega (arith, c.if-which-eq0.false, c.if-which-eq1.false),
  (c.in_ok-agent.ensures.ok.1, rw (c.in_ok-agent.ensures.ok.0, c.in-None.is) at c.delay.ensures),
)
