use Rattle.c_calls.proofs.handle.opened.Goals as goal

pub returns-in-Ok-clause-opened : goal.returns-in-Ok-clause-opened
returns-in-Ok-clause-opened c = λ _. (c.in-Ok.robot.value, c.in-Ok.ensures.ok, c.boxed.ensures.value)
