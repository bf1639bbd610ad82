use Rattle.std.specs.Io.KnownBytes.{Consumes}
use Rattle.safe_output.proofs.streams.read_all.Given as goal

abbrev pub invariant-loop-all : goal.invariant-loop-all
invariant-loop-all g l = let remaining = g.R.Read.remaining in
    Consumes (remaining l.fn.reader) (remaining l.reader) l.all.items

abbrev pub decreases-loop-all : goal.decreases-loop-all
decreases-loop-all g l = l.left
