use Rattle.std.proofs.Common.{IfSome, codes, map, string_bytes, take}
use Rattle.c_calls.specs.Verdicts.{AreRows, IsRow}
use Rattle.c_calls.proofs.matrix.rows_of.Given as goal

abbrev pub invariant-loop-agent : goal.invariant-loop-agent
invariant-loop-agent l =
    let targets = map string_bytes l.fn.targets in
    let agents = map (λ agent. agent.now) (take l.agent-index l.agent-items) in
    record {
      rows : AreRows l.fn.site targets agents l.numbers.items;
      shared : IfSome l.shared (λ row. IsRow l.fn.site targets (codes "*") row.items);
    }
