use Rattle.std.proofs.{Common.arith, lemmas.Grind.common_steps, lemmas.List.drop_all}
use Rattle.robots_verdict.proofs.InputLemmas.{first_not_utf8, utf8_next}
use Rattle.robots_verdict.proofs.header.texts_of.Goals as goal

pub loop-url-preserved : goal.loop-url-preserved
loop-url-preserved c = record {
  same = grind (arith, common_steps);
  are_utf8 = grind (arith, utf8_next);
}

pub returns-clause-ok : goal.returns-clause-ok
returns-clause-ok c = (
  grind (arith, common_steps),
  grind (arith, drop_all),
)

pub returns-in_err-text_of-clause-fault : goal.returns-in_err-text_of-clause-fault
returns-in_err-text_of-clause-fault c = first_not_utf8 c.from_residual.result c.in_err-text_of.field-0.0
    c.args.urls.now c.loop-url.url-index _ c.from_residual.ensures.1 c.loop-url.invariant.are_utf8
    c.loop-url-test.true c.in_err-text_of.ensures.fault
