use Rattle.std.proofs.{Common.sym, Common.◌∙◌, lemmas.List.take_all}
use Rattle.c_calls.proofs.NumberLemmas.{one_more_row, shared_row}
use Rattle.c_calls.proofs.matrix.rows_of.Goals as goal

pub loop-agent-preserved-then-is_named : goal.loop-agent-preserved-then-is_named
loop-agent-preserved-then-is_named c = record {
  rows = rw (c.in_ok-extend_from_slice.ensures.items, c.deref.ensures.value)
      (one_more_row _ _ (λ agent. agent.now) _ _ _ _ _ c.loop-agent-test.true c.loop-agent.invariant.rows
      c.in_ok-row.ensures);
  shared = c.loop-agent.invariant.shared;
}

pub loop-agent-preserved : goal.loop-agent-preserved
loop-agent-preserved c =
    let row = shared_row _ _ _ _ (sym c.is_named.ensures ∙ c.if-is_named.false) c.in_ok-row-2.ensures in
    record {
      rows = rw (c.in_ok-extend_from_slice-2.ensures.items, c.deref-in-loop-agent.ensures.value)
          (one_more_row _ _ (λ agent. agent.now) _ _ _ _ _ c.loop-agent-test.true
          c.loop-agent.invariant.rows row);
      shared = c.in_ok-row-2.ensures;
    }

pub returns : goal.returns
returns c =
    rw (take_all _ _ c.loop-agent-test.false, c.deref-agent-items.ensures.value, c.in_ok-agents.ensures)
    at c.loop-agent.invariant.rows
