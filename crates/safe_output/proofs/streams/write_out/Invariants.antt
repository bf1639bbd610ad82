use Rattle.std.proofs.Common.{length, take, ◌-◌, ◌≤◌}
use Rattle.std.specs.Io.KnownBytes.{Appends}
use Rattle.safe_output.proofs.streams.write_out.Given as goal

abbrev pub invariant-loop-at : goal.invariant-loop-at
invariant-loop-at g l =
    let contents = g.W.Write.contents in
    record {
      place : l.at ≤ length l.text;
      written : Appends (contents l.fn.writer) (contents l.writer) (take l.at l.text);
    }

abbrev pub decreases-loop-at : goal.decreases-loop-at
decreases-loop-at g l = length l.text - l.at
